-- What a stream holds after a line that was written, refused, or written in part.
use Rattle.std.proofs.Common.{inl, ◌≡◌, ◌∙◌, ◌⊎◌, ⊎_elim, ap, refl, subst, sym, ℕ, List, [], ◌∷◌, ◌++◌, Option, None, Some, Result, Ok, Err, append-nil, append_assoc, codes}
use Rattle.std.proofs.KnownBytes.{Appends-nil}
use Rattle.std.specs.Prelude.{IfErr, IfOk, IsOkAnd, OnOk}
use Rattle.std.specs.Io.KnownBytes.{Appends, Keeps}
use Rattle.tp_textpeer.specs.Output.{AppendsPart}
use Rattle.tp_report.specs.Names.{refusal_lines}
use Rattle.tp_report.specs.Telling.{GrowsPart, IsToldOf, with_cut}
use Rattle.tp_report.specs.declared.error.JobError.{JobError}
use Rattle.tp_list.specs.Bytes.{line}

-- what stayed grew by none of the bytes
pub part_of_none : (old new : Option (List ℕ)) (bs : List ℕ) → Keeps old new → AppendsPart old new bs
part_of_none old new bs kept = record { part = []; rest = bs; begins = refl; grown = appended old new kept }
  where
    appended : (a b : Option (List ℕ)) → Keeps a b → Appends a b []
    appended None b h = tt
    appended (Some x) None h = absurd h
    appended (Some x) (Some y) h = h ∙ sym (append-nil x)

-- nothing is written of a refusal
pub nothing_reported : (e : JobError) (note file : List ℕ) (cut : Option ℕ) (held : Option (List ℕ)) → GrowsPart (IsToldOf note file cut e) held held
nothing_reported e note file cut held =
    let reported = with_cut (refusal_lines e) file cut ++ note in
    (reported, inl refl, record { part = []; rest = reported; begins = refl; grown = Appends-nil held })

-- a line that was refused, or written in part
pub part_of_line : {A S E F : Type 0} (done : Result A E) (printed : Result S F) (bytes : S → List ℕ) (is : E → Type 0) (line : List ℕ) (old new : Option (List ℕ))
    → IfOk printed (λ l. bytes l ≡ line)
    → IfErr done (λ e. Keeps old new ⊎ (is e × IsOkAnd printed (λ l. AppendsPart old new (bytes l))))
    → IfErr done (λ e. AppendsPart old new line)
part_of_line (Ok x) printed bytes is line old new spelled wrote = tt
part_of_line (Err e) (Ok l) bytes is line old new spelled wrote =
    ⊎_elim (λ kept. part_of_none old new line kept) (λ part. subst (AppendsPart old new) spelled part.1) wrote
part_of_line (Err e) (Err f) bytes is line old new spelled wrote = ⊎_elim (λ kept. part_of_none old new line kept) (λ part. absurd part.1) wrote

-- a line that was written, or refused, or written in part
pub part_reported : {A S E F : Type 0} (done : Result A E) (printed : Result S F) (bytes : S → List ℕ) (is : E → Type 0) (line : List ℕ) (old new : Option (List ℕ))
    → IfOk printed (λ l. bytes l ≡ line)
    → OnOk done (IsOkAnd printed (λ l. Appends old new (bytes l)))
    → IfErr done (λ e. Keeps old new ⊎ (is e × IsOkAnd printed (λ l. AppendsPart old new (bytes l))))
    → AppendsPart old new line
part_reported (Ok x) (Ok l) bytes is line old new spelled whole wrote =
    subst (AppendsPart old new) spelled (record { part = bytes l; rest = []; begins = sym (append-nil (bytes l)); grown = whole })
part_reported (Ok x) (Err f) bytes is line old new spelled whole wrote = absurd whole
part_reported (Err e) printed bytes is line old new spelled whole wrote = part_of_line {A = ℕ} (Err e) printed bytes is line old new spelled wrote

-- how the line is spelled that says where bytes are kept that were cut off
pub cut_line : (text file number : List ℕ)
    → text ++ (codes "cut " ++ (file ++ (codes ".cut-" ++ (number ++ 10 ∷ [])))) ≡ text ++ codes "cut " ++ line (file ++ codes ".cut-" ++ number)
cut_line text file number =
    let path : file ++ (codes ".cut-" ++ (number ++ 10 ∷ [])) ≡ line (file ++ codes ".cut-" ++ number) =
    sym (append_assoc file (codes ".cut-") (number ++ 10 ∷ [])) ∙ sym (append_assoc (file ++ codes ".cut-") number (10 ∷ [])) in
    sym (append_assoc text (codes "cut ") (file ++ (codes ".cut-" ++ (number ++ 10 ∷ [])))) ∙ ap (λ l. text ++ codes "cut " ++ l) path

-- parts of a text, grouped from its begin
pub grouped : (s a t b u c v d w r : List ℕ) → s ++ (a ++ (t ++ (b ++ (u ++ (c ++ (v ++ (d ++ (w ++ r)))))))) ≡ s ++ a ++ t ++ b ++ u ++ c ++ v ++ d ++ w ++ r
grouped s a t b u c v d w r =
    sym (append_assoc s a (t ++ (b ++ (u ++ (c ++ (v ++ (d ++ (w ++ r))))))))
    ∙ sym (append_assoc (s ++ a) t (b ++ (u ++ (c ++ (v ++ (d ++ (w ++ r)))))))
    ∙ sym (append_assoc (s ++ a ++ t) b (u ++ (c ++ (v ++ (d ++ (w ++ r))))))
    ∙ sym (append_assoc (s ++ a ++ t ++ b) u (c ++ (v ++ (d ++ (w ++ r)))))
    ∙ sym (append_assoc (s ++ a ++ t ++ b ++ u) c (v ++ (d ++ (w ++ r))))
    ∙ sym (append_assoc (s ++ a ++ t ++ b ++ u ++ c) v (d ++ (w ++ r)))
    ∙ sym (append_assoc (s ++ a ++ t ++ b ++ u ++ c ++ v) d (w ++ r))
    ∙ sym (append_assoc (s ++ a ++ t ++ b ++ u ++ c ++ v ++ d) w r)

-- the line of a note, grouped from its begin
pub note_line : (s path t place sentence : List ℕ) → s ++ (path ++ (t ++ (place ++ (sentence ++ 10 ∷ [])))) ≡ line (s ++ path ++ t ++ place ++ sentence)
note_line s path t place sentence =
    sym (append_assoc s path (t ++ (place ++ (sentence ++ 10 ∷ []))))
    ∙ sym (append_assoc (s ++ path) t (place ++ (sentence ++ 10 ∷ [])))
    ∙ sym (append_assoc (s ++ path ++ t) place (sentence ++ 10 ∷ []))
    ∙ sym (append_assoc (s ++ path ++ t ++ place) sentence (10 ∷ []))
