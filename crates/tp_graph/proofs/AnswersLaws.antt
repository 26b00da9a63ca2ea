-- How a cause comes of its parts.
use Rattle.tp_graph.proofs.Common.{Option, ◌≡◌, List, true, false, Some, Result, Ok, Err, refl, sym, subst, ChangeParts, hash_of, GraphError, Known, MissingDeps, BadSeq, BadStart, BadReference, SeqClash, UnknownHead, Full, OutOfMemory, has, has_all, past}
use Rattle.std.specs.Result.{IsErrAnd}
use Rattle.tp_history.specs.Fit.{defect, defect_after, cause}
use Rattle.tp_graph.specs.Causes.{IsCause, MatchesCause}

-- a fault after the past is the cause, where the change is new and its dependencies are there
cause_after : (C : List ChangeParts) (c : ChangeParts) (e : GraphError) → has C (hash_of c) ≡ false → has_all C c.deps ≡ true → defect_after (past C c.deps) c ≡ Some e → cause C c ≡ Some e
unfolding cause defect
cause_after C c e new there h = rw (new, there, h) refl

IsCause-after : (C : List ChangeParts) (c : ChangeParts) (e : GraphError) → has C (hash_of c) ≡ false → has_all C c.deps ≡ true → IsCause e (defect_after (past C c.deps) c) → IsCause e (cause C c)
IsCause-after C c Known new there h = cause_after C c Known new there h
IsCause-after C c MissingDeps new there h = cause_after C c MissingDeps new there h
IsCause-after C c BadSeq new there h = cause_after C c BadSeq new there h
IsCause-after C c BadStart new there h = cause_after C c BadStart new there h
IsCause-after C c BadReference new there h = cause_after C c BadReference new there h
IsCause-after C c SeqClash new there h = cause_after C c SeqClash new there h
IsCause-after C c UnknownHead new there h = cause_after C c UnknownHead new there h
IsCause-after C c Full new there h = cause_after C c Full new there h
IsCause-after C c OutOfMemory new there h = tt

pub MatchesCause-after : {T : Type 0} (C : List ChangeParts) (c : ChangeParts) (e : GraphError) (r : Result T GraphError)
    → has C (hash_of c) ≡ false → has_all C c.deps ≡ true → IsCause e (defect_after (past C c.deps) c) → IsErrAnd r (λ x. x ≡ e) → MatchesCause r (cause C c)
MatchesCause-after C c e (Ok x) new there h k = absurd k
MatchesCause-after C c e (Err x) new there h k = subst (λ y. IsCause y (cause C c)) (sym k) (IsCause-after C c e new there h)

-- a refusal that is passed on
pub MatchesCause-passed : {T : Type 0} (o : Option GraphError) (e : GraphError) (r : Result T GraphError) → IsCause e o → IsErrAnd r (λ x. x ≡ e) → MatchesCause r o
MatchesCause-passed o e (Ok x) h k = absurd k
MatchesCause-passed o e (Err x) h k = subst (λ y. IsCause y o) (sym k) h
