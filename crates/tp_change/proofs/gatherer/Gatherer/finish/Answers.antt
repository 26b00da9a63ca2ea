use Rattle.std.proofs.Common.{◌≡◌, ℕ, List, ◌++◌, take, subst, arith}
use Rattle.std.proofs.lemmas.Grind.{common_steps}
use Rattle.sha2.specs.Sha256.{sha256}
use Rattle.tp_change.proofs.gatherer.Gatherer.finish.Goals as goal

-- where nothing is held, all was hashed
all_hashed : (m front held : List ℕ) (len : ℕ) → len ≡ 0 → m ≡ front ++ take len held → front ≡ m
all_hashed m front held len none all = grind (arith, common_steps, none, all)

pub returns : goal.returns
returns c = λ m h.
    let g = c.flush.ensures.gathered m h in
    let e : g.front ≡ m = all_hashed m g.front c.flush.new.self.held c.flush.new.self.len c.flush.ensures.len g.all in
    let P : List ℕ → Type 0 = λ x. c.finalize.result ≡ sha256 x in
    subst P e (c.finalize.ensures g.front g.holds)
