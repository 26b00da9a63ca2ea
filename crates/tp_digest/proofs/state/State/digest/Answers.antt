use Rattle.std.proofs.Common.{◌≡◌, ◌∙◌, ◌*◌, ◌+◌, ℕ, List, sym, ap, refl, arith, rules, length, add-one, ◌++◌, get_or}
use Rattle.std.proofs.lemmas.Slice.{take-put_mid, overwrites}
use Rattle.std.specs.Int.{w32, to_be_bytes}
use Rattle.sha2.specs.Sha256.{digest_bytes}
use Rattle.tp_digest.specs.Lanes.{lane_of}
use Rattle.tp_digest.proofs.state.State.digest.Goals as goal

one_word_more : (h : List ℕ) (i : ℕ) → digest_bytes h (i + 1) ≡ digest_bytes h i ++ to_be_bytes w32 (get_or h i 0)
unfolding digest_bytes
one_word_more h i = rw add-one refl

pub loop-i-init : goal.loop-i-init
unfolding digest_bytes
loop-i-init c = record { long = refl; known = refl }

-- the bytes before the word's are kept, and after them are the word's four
pub loop-i-preserved : goal.loop-i-preserved
loop-i-preserved c =
    let four : length c.copy_from_slice.new.self ≡ 4 = search rules in
    let h = lane_of c.args.self.now c.args.lane in
    let i = c.loop-i.i in
    record {
      long = search (rules, overwrites);
      known = take-put_mid (4 * i) _ c.loop-i.bytes c.copy_from_slice.new.self (4 * (i + 1)) (omega arith) (omega arith)
          ∙ ap (λ v. v ++ c.copy_from_slice.new.self) c.loop-i.invariant.known
          ∙ ap (λ v. digest_bytes h i ++ v) (c.copy_from_slice.ensures.after ∙ c.to_be_bytes.ensures
          ∙ ap (λ v. to_be_bytes w32 (get_or v i 0)) c.lane-words.ensures)
          ∙ sym (one_word_more h i);
    }
