use Rattle.tp_document.proofs.Common.{◌≡◌, List, ap, sym, subst, ◌∙◌, true, refl, ChangeParts, Sound, DocState, DocId, HasOutcome, receiving, absent, same_doc, same_doc-same, same_doc-apart, ReceivesWith, kept_by, begin, Stops-still}
use Rattle.tp_document.proofs.MergeLaws.{never_full}
use Rattle.tp_document.proofs.ApplyLaws.{merged_so}
use Rattle.tp_document.proofs.document.Document.merge_with.Goals as goal

-- two documents whose identifiers were found to be one have one
one_id : (d e : DocState) (a b : DocId) → a ≡ d.id → b ≡ e.id → same_doc a b ≡ true → d.id ≡ e.id
one_id d e a b x y t = sym x ∙ same_doc-same a b t ∙ y

pub returns-then-not-is-clause-space : goal.returns-then-not-is-clause-space
returns-then-not-is-clause-space g c =
    never_full c.args.self.now.applied c.args.self.now.waiting c.args.other.now.applied (subst (λ (d : DocState). Sound d.applied) c.other.view_is c.other.invariant.sound) c.pending-pending.ensures.few

pub returns-in-Ok-clause-space : goal.returns-in-Ok-clause-space
returns-in-Ok-clause-space g c =
    never_full c.args.self.now.applied c.args.self.now.waiting c.args.other.now.applied c.changes.ensures.sound c.pending-pending.ensures.few

pub returns-in-Err-clause-space : goal.returns-in-Err-clause-space
returns-in-Err-clause-space g c =
    never_full c.args.self.now.applied c.args.self.now.waiting c.args.other.now.applied c.changes.ensures.sound c.pending-pending.ensures.few

pub returns-then-not-is-clause-outcome : goal.returns-then-not-is-clause-outcome
returns-then-not-is-clause-outcome g c = (
  λ same. same_doc-apart c.self.inside.id c.other.inside.id (sym c.is.ensures ∙ c.if-not-is.true)
      (ap (λ (d : DocState). d.id) c.self.view_is ∙ same ∙ sym (ap (λ (d : DocState). d.id) c.other.view_is)),
  refl,
)

pub returns-in-Ok-clause-outcome : goal.returns-in-Ok-clause-outcome
returns-in-Ok-clause-outcome g c =
    let s = kept_by c.args.keeper.now c.args.self.now in
    let t = kept_by c.apply_with.new.keeper c.apply_with.new.self in
    let came = c.in-Ok.ensures.copied ∙ ap (absent c.args.self.now.applied) c.changes.ensures.changes in
    let same = one_id c.args.self.now c.args.other.now c.self.inside.id c.other.inside.id (ap (λ (d : DocState). d.id) c.self.view_is) (ap (λ (d : DocState). d.id) c.other.view_is) (sym c.is.ensures ∙ c.if-not-is.false) in
    merged_so c.args.self.now.id c.args.other.now.id s t c.apply_with.result
    (ReceivesWith g.K.Keeper.keeps g.K.Keeper.refuses s (absent c.args.self.now.applied c.args.other.now.applied) t) same
    (subst (λ (K : List ChangeParts). HasOutcome receiving c.apply_with.result (ReceivesWith g.K.Keeper.keeps g.K.Keeper.refuses s K t)) came c.apply_with.ensures.outcome)

pub returns-in-Err-clause-outcome : goal.returns-in-Err-clause-outcome
returns-in-Err-clause-outcome g c =
    let d = c.args.self.now in
    let same = one_id d c.args.other.now c.self.inside.id c.other.inside.id (ap (λ (d : DocState). d.id) c.self.view_is) (ap (λ (d : DocState). d.id) c.other.view_is) (sym c.is.ensures ∙ c.if-not-is.false) in
    let stops = Stops-still g.K.Keeper.keeps g.K.Keeper.refuses (begin c.args.keeper.now d.applied d.waiting (absent d.applied c.args.other.now.applied)) c.args.keeper.now d.applied d.waiting refl refl refl in
    (same, (λ full. refl, stops))
