-- A reply has the form of its call.
use Rattle.tp_peer.proofs.Common.{◌≡◌, ◌⊎◌, inl, inr, ℕ, List, Option, String, Global, refl, Splice, Hash, PeerState, PeerStep, Runs}
use Rattle.tp_call.specs.Calls.{IsReplyTo, reply_of}
use Rattle.tp_call.specs.declared.call.Reply.{Reply}
use Rattle.tp_peer.specs.declared.error.PeerError.{PeerError}
use Rattle.tp_peer.specs.declared.error.PeerError.TheVariants.{Stopped}
use Rattle.tp_peer.specs.declared.exchanged.Outgoing.{Outgoing}
use Rattle.tp_peer.specs.declared.exchanged.Received.{Received}
use Rattle.tp_peer.proofs.StepLaws.{step_cases}
use Rattle.tp_call.specs.declared.call.Reply.TheVariants as reply
use Rattle.tp_peer.specs.PeerStep as step

-- neither a refusal for a stop nor what a running peer may reply
never : {A : Type 0} (p p' : PeerState) (made : step.Call) (r : step.Reply) → PeerStep p made r p' → (r ≡ step.Refused Stopped → ⊥) → (Runs p made r p' → ⊥) → A
never p p' made r s stopped runs = elim (step_cases p made r p' s) [ inl is ↦ absurd (stopped is.0) | inr is ↦ absurd (runs is.1) ]

pub made_or_refused : (r : Reply) → (splices : List Splice) × (time : ℕ) × (message : List ℕ) × IsReplyTo (step.Edit splices time message) (reply_of r)
    → ((made : Option Hash) × (r ≡ reply.Made made)) ⊎ ((error : PeerError) × (r ≡ reply.Refused error))
made_or_refused (reply.Made x) h = inl (x, refl)
made_or_refused (reply.Received x) h = never h.3.0 h.3.1 (step.Edit h.0 h.1 h.2) (reply_of (reply.Received x)) h.3.2 (λ e. cc) (λ runs. runs)
made_or_refused (reply.Generated x) h = never h.3.0 h.3.1 (step.Edit h.0 h.1 h.2) (reply_of (reply.Generated x)) h.3.2 (λ e. cc) (λ runs. runs)
made_or_refused reply.Forgotten h = never h.3.0 h.3.1 (step.Edit h.0 h.1 h.2) (reply_of reply.Forgotten) h.3.2 (λ e. cc) (λ runs. runs)
made_or_refused (reply.Text x) h = never h.3.0 h.3.1 (step.Edit h.0 h.1 h.2) (reply_of (reply.Text x)) h.3.2 (λ e. cc) (λ runs. runs)
made_or_refused (reply.Refused x) h = inr (x, refl)

pub received_or_refused : (r : Reply) → (link : ℕ) × (bytes : List ℕ) × IsReplyTo (step.Receive link bytes) (reply_of r)
    → ((received : Received) × (r ≡ reply.Received received)) ⊎ ((error : PeerError) × (r ≡ reply.Refused error))
received_or_refused (reply.Made x) h = never h.2.0 h.2.1 (step.Receive h.0 h.1) (reply_of (reply.Made x)) h.2.2 (λ e. cc) (λ runs. runs)
received_or_refused (reply.Received x) h = inl (x, refl)
received_or_refused (reply.Generated x) h = never h.2.0 h.2.1 (step.Receive h.0 h.1) (reply_of (reply.Generated x)) h.2.2 (λ e. cc) (λ runs. runs)
received_or_refused reply.Forgotten h = never h.2.0 h.2.1 (step.Receive h.0 h.1) (reply_of reply.Forgotten) h.2.2 (λ e. cc) (λ runs. runs)
received_or_refused (reply.Text x) h = never h.2.0 h.2.1 (step.Receive h.0 h.1) (reply_of (reply.Text x)) h.2.2 (λ e. cc) (λ runs. runs)
received_or_refused (reply.Refused x) h = inr (x, refl)

pub generated_or_refused : (r : Reply) → (link : ℕ) × IsReplyTo (step.Generate link) (reply_of r)
    → ((sent : Option Outgoing) × (r ≡ reply.Generated sent)) ⊎ ((error : PeerError) × (r ≡ reply.Refused error))
generated_or_refused (reply.Made x) h = never h.1.0 h.1.1 (step.Generate h.0) (reply_of (reply.Made x)) h.1.2 (λ e. cc) (λ runs. runs)
generated_or_refused (reply.Received x) h = never h.1.0 h.1.1 (step.Generate h.0) (reply_of (reply.Received x)) h.1.2 (λ e. cc) (λ runs. runs)
generated_or_refused (reply.Generated x) h = inl (x, refl)
generated_or_refused reply.Forgotten h = never h.1.0 h.1.1 (step.Generate h.0) (reply_of reply.Forgotten) h.1.2 (λ e. cc) (λ runs. runs)
generated_or_refused (reply.Text x) h = never h.1.0 h.1.1 (step.Generate h.0) (reply_of (reply.Text x)) h.1.2 (λ e. cc) (λ runs. runs)
generated_or_refused (reply.Refused x) h = inr (x, refl)

pub forgotten_or_refused : (r : Reply) → (link : ℕ) × IsReplyTo (step.Forget link) (reply_of r)
    → ((r ≡ reply.Forgotten)) ⊎ ((error : PeerError) × (r ≡ reply.Refused error))
forgotten_or_refused (reply.Made x) h = never h.1.0 h.1.1 (step.Forget h.0) (reply_of (reply.Made x)) h.1.2 (λ e. cc) (λ runs. runs)
forgotten_or_refused (reply.Received x) h = never h.1.0 h.1.1 (step.Forget h.0) (reply_of (reply.Received x)) h.1.2 (λ e. cc) (λ runs. runs)
forgotten_or_refused (reply.Generated x) h = never h.1.0 h.1.1 (step.Forget h.0) (reply_of (reply.Generated x)) h.1.2 (λ e. cc) (λ runs. runs)
forgotten_or_refused reply.Forgotten h = inl refl
forgotten_or_refused (reply.Text x) h = never h.1.0 h.1.1 (step.Forget h.0) (reply_of (reply.Text x)) h.1.2 (λ e. cc) (λ runs. runs)
forgotten_or_refused (reply.Refused x) h = inr (x, refl)

pub text_or_refused : (r : Reply) → IsReplyTo step.Read (reply_of r) ⊎ ((hashes : List Hash) × IsReplyTo (step.ReadAt hashes) (reply_of r))
    → ((text : String Global) × (r ≡ reply.Text text)) ⊎ ((error : PeerError) × (r ≡ reply.Refused error))
text_or_refused (reply.Made x) (inl h) = never h.0 h.1 step.Read (reply_of (reply.Made x)) h.2 (λ e. cc) (λ runs. runs)
text_or_refused (reply.Made x) (inr h) = never h.1.0 h.1.1 (step.ReadAt h.0) (reply_of (reply.Made x)) h.1.2 (λ e. cc) (λ runs. runs)
text_or_refused (reply.Received x) (inl h) = never h.0 h.1 step.Read (reply_of (reply.Received x)) h.2 (λ e. cc) (λ runs. runs)
text_or_refused (reply.Received x) (inr h) = never h.1.0 h.1.1 (step.ReadAt h.0) (reply_of (reply.Received x)) h.1.2 (λ e. cc) (λ runs. runs)
text_or_refused (reply.Generated x) (inl h) = never h.0 h.1 step.Read (reply_of (reply.Generated x)) h.2 (λ e. cc) (λ runs. runs)
text_or_refused (reply.Generated x) (inr h) = never h.1.0 h.1.1 (step.ReadAt h.0) (reply_of (reply.Generated x)) h.1.2 (λ e. cc) (λ runs. runs)
text_or_refused reply.Forgotten (inl h) = never h.0 h.1 step.Read (reply_of reply.Forgotten) h.2 (λ e. cc) (λ runs. runs)
text_or_refused reply.Forgotten (inr h) = never h.1.0 h.1.1 (step.ReadAt h.0) (reply_of reply.Forgotten) h.1.2 (λ e. cc) (λ runs. runs)
text_or_refused (reply.Text x) h = inl (x, refl)
text_or_refused (reply.Refused x) h = inr (x, refl)
