use Rattle.std.proofs.lemmas.Str.{chars-nil}
use Rattle.tp_snapshot.proofs.Common.{◌≡◌, ◌+◌, [], ◌∷◌, ◌++◌, length, sym, ap, ◌∙◌, chars, string_bytes}
use Rattle.tp_snapshot.proofs.BuilderLaws.{state, state_same, grows_into}
use Rattle.tp_snapshot.proofs.DifferenceLaws.{difference}
use Rattle.tp_snapshot.specs.Differences.{BuilderState, difference_if_any}
use Rattle.tp_snapshot.proofs.difference_builder.DifferenceBuilder.close.Goals as goal
use Rattle.tp_snapshot.proofs.difference_builder.DifferenceBuilder.close.Goals.{else-self-eq0-via-then-self-eq0+else-self-eq0-2, else-self-eq0-via-else-self-eq0}

pub invariant_of-self-2 : goal.invariant_of-self-2
invariant_of-self-2 c = sym (ap length (ap chars c.clear.ensures.bytes ∙ chars-nil))

pub returns : goal.returns
returns c =
    let b = c.self.inside in
    let text = chars (string_bytes b.text) in
    let some : b.del ≡ 0 → b.count ≡ 0 → ⊥ = elim c.else-self-eq0.branch as (λ _. b.del ≡ 0 → b.count ≡ 0 → ⊥) [
      | else-self-eq0-via-then-self-eq0+else-self-eq0-2 w ↦ λ d n. w.if-self-eq0-2.false n
      | else-self-eq0-via-else-self-eq0 w ↦ λ d n. w.if-self-eq0.false d
    ] in
    let grown : difference_if_any b.at b.del text ≡ difference b.at b.del text ∷ [] = grows_into b.at b.del b.count text c.self.invariant some in
    state_same (b.at + b.count) (b.at + length text) 0 (chars (string_bytes c.clear.new.self)) [] c.push.new.self.items (b.found.items ++ difference_if_any b.at b.del text)
    (ap (λ n. b.at + n) c.self.invariant) (ap chars c.clear.ensures.bytes ∙ chars-nil)
    (c.in_ok-push.ensures.items ∙ ap (λ t. b.found.items ++ difference b.at b.del t ∷ []) (c.in_ok-text.ensures.copied ∙ ap chars c.as_str.ensures.value) ∙ sym (ap (λ l. b.found.items ++ l) grown))
    ∙ ap (λ (s : BuilderState). state (s.at + length s.text) 0 [] (s.found ++ difference_if_any s.at s.del s.text)) c.self.view_is
