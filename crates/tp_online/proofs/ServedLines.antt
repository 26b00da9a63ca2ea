-- What a server prints, and where it stops.
use Rattle.std.proofs.Common.{◌≡◌, ◌∙◌, ◌⊎◌, ⊎_elim, inl, inr, ap, refl, sym, ℕ, List, ◌++◌, Option, Result, Ok, Err, append_assoc}
use Rattle.std.specs.Prelude.{IfErr, IfOk, IsOkAnd, OnOk}
use Rattle.std.specs.Io.KnownBytes.{Appends, Keeps}
use Rattle.std.proofs.KnownBytes.{Appends-trans}
use Rattle.tp_textpeer.specs.Output.{AppendsPart}
use Rattle.tp_report.specs.declared.error.JobError.{JobError}
use Rattle.tp_online.specs.Network.{IsServeOutput, IsSynced, listening_line, served_line}
use Rattle.tp_report.specs.Telling.{applied_line, GrowsBy, GrowsPart, RefusesPrinting}
use Rattle.tp_report.specs.JobError.{IsOfOutput}

-- the line of how many changes entered, refused, or written in part since the output failed
pub leaves : {A S F : Type 0} (done : Result A JobError) (printed : Result S F) (bytes : S → List ℕ) (applied : ℕ) (old new : Option (List ℕ))
    → IfOk printed (λ l. bytes l ≡ applied_line applied)
    → IfErr done (λ e. Keeps old new ⊎ (IsOfOutput e × IsOkAnd printed (λ l. AppendsPart old new (bytes l))))
    → IfErr done (λ e. RefusesPrinting IsSynced old e new)
leaves (Ok x) printed bytes applied old new spelled wrote = tt
leaves (Err e) (Ok l) bytes applied old new spelled wrote =
    ⊎_elim (λ kept. inl kept) (λ part. inr (part.0, (bytes l, (applied, spelled), part.1))) wrote
leaves (Err e) (Err f) bytes applied old new spelled wrote = ⊎_elim (λ kept. inl kept) (λ part. absurd part.1) wrote

-- both lines were written
pub served : {A E : Type 0} (done : Result A E) (old mid new : Option (List ℕ)) (port sessions : ℕ) → Appends old mid (listening_line port)
    → OnOk done (Appends mid new (served_line sessions)) → OnOk done (GrowsBy (IsServeOutput sessions) old new)
served (Ok x) old mid new port sessions wrote more =
    (listening_line port ++ served_line sessions, (port, refl), Appends-trans old mid new (listening_line port) (served_line sessions) wrote more)
served (Err e) old mid new port sessions wrote more = tt

-- a part of the first line
pub stopped_first : (old new : Option (List ℕ)) (port sessions : ℕ) → AppendsPart old new (listening_line port) → GrowsPart (IsServeOutput sessions) old new
stopped_first old new port sessions p = (
  listening_line port ++ served_line sessions,
  (port, refl),
  record {
    part = p.part;
    rest = p.rest ++ served_line sessions;
    begins = ap (λ (l : List ℕ). l ++ served_line sessions) p.begins ∙ append_assoc p.part p.rest (served_line sessions);
    grown = p.grown;
  },
)

-- the first line, and a part of the second
pub stopped_then : {A E : Type 0} (done : Result A E) (old mid new : Option (List ℕ)) (port sessions : ℕ) → Appends old mid (listening_line port)
    → IfErr done (λ e. AppendsPart mid new (served_line sessions)) → IfErr done (λ e. GrowsPart (IsServeOutput sessions) old new)
stopped_then (Ok x) old mid new port sessions wrote part = tt
stopped_then (Err e) old mid new port sessions wrote p = (
  listening_line port ++ served_line sessions,
  (port, refl),
  record {
    part = listening_line port ++ p.part;
    rest = p.rest;
    begins = ap (λ (l : List ℕ). listening_line port ++ l) p.begins ∙ sym (append_assoc (listening_line port) p.part p.rest);
    grown = Appends-trans old mid new (listening_line port) p.part wrote p.grown;
  },
)
