-- What holds whatever a call answered.
use Rattle.std.proofs.Common.{◌≡◌, ◌⊎◌, ℕ, List, MatchResult, Option, None, Result, Ok, Err, inl, inr, subst, sym, ⊎_elim}
use Rattle.std.specs.Prelude.{IfErr, IfOk, IsOkAnd, OnErr, OnOk}
use Rattle.tp_report.specs.Names.{WasMade}
use Rattle.tp_report.specs.declared.error.JobError.{JobError}
use Rattle.tp_report.specs.declared.error.JobError.TheVariants.{Command, Show, Line, Session, Unreached, Closed, Unsaid, HalfWay}

-- what is there where it was done is there without what it gave back
pub done_after : {A B E : Type 0} (r : Result A E) (d : Result (Option B) E) (P : Type 0) → MatchResult r (λ _. d ≡ Ok None) (λ e. d ≡ Err e) → OnOk r P → OnOk d P
done_after (Ok x) d P is p = subst (λ (q : Result (Option _) _). OnOk q P) (sym is) p
done_after (Err e) d P is p = subst (λ (q : Result (Option _) _). OnOk q P) (sym is) tt

-- what holds where it was done, and where it was refused
pub done_on : {A E P : Type 0} (r : Result A E) → P → OnOk r P
done_on (Ok x) p = p
done_on (Err e) p = tt

pub refused_on : {A E P : Type 0} (r : Result A E) → P → OnErr r P
refused_on (Ok x) p = tt
refused_on (Err e) p = p

-- what is said of each value is said of the one that was answered
pub on_value : {A E : Type 0} (P Q : A → Type 0) (r : Result A E) → IfOk r P → ((x : A) → P x → Q x) → IfOk r Q
on_value P Q (Ok x) p f = f x p
on_value P Q (Err e) p f = tt

-- what was written is what was to be printed
pub printed_of : {A B E F : Type 0} (done : Result A E) (printed : Result B F) (bytes : B → List ℕ) (P Q : List ℕ → Type 0)
    → OnOk done (IsOkAnd printed (λ t. Q (bytes t))) → IfOk printed (λ t. P (bytes t)) → OnOk done ((x : List ℕ) × P x × Q x)
printed_of (Ok a) (Ok t) bytes P Q wrote said = (bytes t, said, wrote)
printed_of (Ok a) (Err f) bytes P Q wrote said = absurd wrote
printed_of (Err e) printed bytes P Q wrote said = tt

-- and where the output failed a part of that
pub partly_of : {A B E F : Type 0} (done : Result A E) (printed : Result B F) (bytes : B → List ℕ) (P P' Q : List ℕ → Type 0) (K : Type 0) (O R : E → Type 0)
    → ((x : List ℕ) → P x → P' x) → IfErr done (λ e. K ⊎ (O e × IsOkAnd printed (λ t. Q (bytes t)))) → IfOk printed (λ t. P (bytes t))
    → IfErr done (λ e. K ⊎ ((O e × ((x : List ℕ) × P' x × Q x)) ⊎ R e))
partly_of (Ok a) printed bytes P P' Q K O R wider failed said = tt
partly_of (Err e) (Ok t) bytes P P' Q K O R wider failed said =
    ⊎_elim (λ kept. inl kept) (λ part. inr (inl (part.0, (bytes t, wider (bytes t) said, part.1)))) failed
partly_of (Err e) (Err f) bytes P P' Q K O R wider failed said = ⊎_elim (λ kept. inl kept) (λ part. absurd part.1) failed

-- what was made whose line couldn't be printed is what is said of the lines that could have been
pub made_of : {S F D : Type 0} (done : Result D JobError) (printed : Result S F) (P : List ℕ → Type 0) (bytes : S → List ℕ)
    → IfErr done (WasMade (λ l. IsOkAnd printed (λ p. bytes p ≡ l))) → IfOk printed (λ p. P (bytes p)) → IfErr done (WasMade P)
made_of (Ok x) printed P bytes was said = tt
made_of (Err (Unsaid made)) (Ok p) P bytes was said = subst P was said
made_of (Err (Unsaid made)) (Err f) P bytes was said = absurd was
made_of (Err (Command e)) printed P bytes was said = tt
made_of (Err (Show r)) printed P bytes was said = tt
made_of (Err (Line number)) printed P bytes was said = tt
made_of (Err (Session e)) printed P bytes was said = tt
made_of (Err (Unreached cause)) printed P bytes was said = tt
made_of (Err Closed) printed P bytes was said = tt
made_of (Err (HalfWay e place)) printed P bytes was said = tt
