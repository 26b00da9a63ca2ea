use Rattle.std.proofs.Common.{◌≡◌, ℕ, ◌<◌, List, Result, Ok, Err, ap, ◌∙◌, subst, arith}
use Rattle.std.specs.Prelude.{IfOk, slice_index}
use Rattle.tp_layout.specs.declared.error.ChangeError.{ChangeError}
use Rattle.tp_layout.specs.declared.error.ChangeError.TheVariants.{OutOfMemory}
use Rattle.tp_layout.specs.declared.parts.ChangeParts.{ChangeParts}
use Rattle.tp_layout.specs.Limits.{IsChange}
use Rattle.tp_layout.specs.Spelling.{spelling}
use Rattle.tp_layout.specs.Reading.{change_at}
use Rattle.tp_codec.specs.Gives.{Gives}
use Rattle.tp_layout.proofs.WholeChange.{change_takes, change_again}
use Rattle.tp_layout.proofs.reading.read_change.Goals as goal

-- what was read is a change, and the bytes are its
found : (bytes : List ℕ) (r : Result ChangeParts ChangeError) → ((i : ℕ) → slice_index bytes i < 256) → Gives OutOfMemory (λ (c : ChangeParts). c) r (change_at bytes) → IfOk r (λ c. IsChange c × (bytes ≡ spelling c))
found bytes (Ok c) fits given = change_takes bytes c fits given
found bytes (Err e) fits given = tt

pub returns-clause-found : goal.returns-clause-found
returns-clause-found c = found c.args.bytes.now c.change_of.result (λ i. omega (arith, c.type_inv.bytes i)) c.change_of.ensures

pub returns-clause-only : goal.returns-clause-only
returns-clause-only c = λ d is e. subst (λ (given : Result ChangeParts ChangeError). Gives OutOfMemory (λ (x : ChangeParts). x) c.change_of.result given) (ap change_at e ∙ change_again d is) c.change_of.ensures
