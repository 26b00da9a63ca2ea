use Rattle.std.proofs.Common.{◌≡◌, ℕ, ◌<◌, List, Result, Ok, Err, ap, ◌∙◌, subst, arith}
use Rattle.std.specs.Prelude.{IfOk, slice_index}
use Rattle.tp_codec.specs.Gives.{Gives}
use Rattle.tp_mirror.specs.declared.state.State.{State}
use Rattle.tp_mirror.specs.declared.state_error.StateError.{StateError}
use Rattle.tp_mirror.specs.declared.state_error.StateError.TheVariants.{OutOfMemory}
use Rattle.tp_mirror.specs.StateFile.{StateIsTyped, state_at, state_bytes}
use Rattle.tp_mirror.proofs.StateFields.{state_takes, state_again}
use Rattle.tp_mirror.proofs.state.State.decode.Goals as goal

-- what was read is a state, and the bytes are its
found : (bytes : List ℕ) (r : Result State StateError) → ((i : ℕ) → slice_index bytes i < 256) → Gives OutOfMemory (λ (s : State). s) r (state_at bytes) → IfOk r (λ s. StateIsTyped s × (bytes ≡ state_bytes s))
found bytes (Ok s) fits given = state_takes bytes s fits given
found bytes (Err e) fits given = tt

pub returns-clause-found : goal.returns-clause-found
returns-clause-found c = found c.args.bytes.now c.whole_state_of.result (λ i. omega (arith, c.type_inv.bytes i)) c.whole_state_of.ensures

pub returns-clause-only : goal.returns-clause-only
returns-clause-only c = λ s is e. subst (λ (given : Result State StateError). Gives OutOfMemory (λ (x : State). x) c.whole_state_of.result given) (ap state_at e ∙ state_again s is) c.whole_state_of.ensures
