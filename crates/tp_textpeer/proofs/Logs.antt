-- Logs, one change more, and why bytes are a log or have a fault but not both.
use Rattle.std.proofs.Common.{◌≡◌, ℕ, ◌+◌, ◌<◌, List, [], ◌∷◌, ◌++◌, length, Option, Some, None, Result, Ok, refl, sym, ap, ◌∙◌, subst, append_assoc, append-nil, arith}
use Rattle.std.specs.Prelude.{IfSome}
use Rattle.std.specs.List.{AllByRecursion}
use Rattle.std.specs.Io.KnownBytes.{Consumes, IsAtEnd}
use Rattle.std.proofs.lemmas.List.{length-append}
use Rattle.std.proofs.lemmas.Grind.{flat_map-append}
use Rattle.tp_layout.specs.declared.parts.ChangeParts.{ChangeParts}
use Rattle.tp_layout.specs.Limits.{IsChange}
use Rattle.tp_layout.proofs.SpellingLaws.{spelling_bounds}
use Rattle.tp_textpeer.specs.declared.error.ShowFault.{ShowFault}
use Rattle.tp_textpeer.specs.Log.{log_of, link_fault, LinkedAfter, IsLog, IsLogFault, IsAfterLog, FindsEnd, logged_change_at, fault_after}
use Rattle.tp_textpeer.proofs.Entries.{entry_again}
use Rattle.tp_layout.specs.Spelling.{framed_change}

log_of-push : (C : List ChangeParts) (c : ChangeParts) → log_of (C ++ c ∷ []) ≡ log_of C ++ framed_change c
log_of-push C c = flat_map-append framed_change C (c ∷ []) ∙ ap (λ l. log_of C ++ l) (append-nil (framed_change c))

each-push : (C : List ChangeParts) (c : ChangeParts) → AllByRecursion IsChange C → IsChange c → AllByRecursion IsChange (C ++ c ∷ [])
each-push [] c each is = (is, tt)
each-push (d ∷ C) c each is = (each.0, each-push C c each.1 is)

linked-push : (before C : List ChangeParts) (c : ChangeParts) → LinkedAfter before C → link_fault (before ++ C) c ≡ None → LinkedAfter before (C ++ c ∷ [])
linked-push before [] c linked fits = (subst (λ l. link_fault l c ≡ None) (append-nil before) fits, tt)
linked-push before (d ∷ C) c linked fits =
    (linked.0, linked-push (before ++ d ∷ []) C c linked.1 (subst (λ l. link_fault l c ≡ None) (sym (append_assoc before (d ∷ []) C)) fits))

consumed : (a b d : Option (List ℕ)) (bs cs : List ℕ) → Consumes a b bs → Consumes b d cs → Consumes a d (bs ++ cs)
consumed None b d bs cs p q = tt
consumed (Some x) None d bs cs p q = absurd p
consumed (Some x) (Some y) None bs cs p q = absurd q
consumed (Some x) (Some y) (Some z) bs cs p q = p ∙ ap (λ l. bs ++ l) q ∙ sym (append_assoc bs cs z)

-- one change more was read, and may follow
pub IsAfterLog-push : (whole left after : Option (List ℕ)) (n : ℕ) (C : List ChangeParts) (c : ChangeParts) → IsAfterLog whole left n C → IsChange c → link_fault C c ≡ None → Consumes left after (framed_change c) → IsAfterLog whole after (n + 1) (C ++ c ∷ [])
IsAfterLog-push whole left after n C c present is fits took = record {
  count = let e = length-append C (c ∷ []) in let k = present.count in omega arith;
  each = each-push C c present.each is;
  linked = linked-push [] C c present.linked fits;
  bytes = subst (Consumes whole after) (sym (log_of-push C c)) (consumed whole left after (log_of C) (framed_change c) present.bytes took);
}

consumed-nil : (known : Option (List ℕ)) → Consumes known known []
consumed-nil None = tt
consumed-nil (Some b) = refl

-- nothing was read yet
pub IsAfterLog-none : (known : Option (List ℕ)) → IsAfterLog known known 0 []
IsAfterLog-none known = record { count = refl; each = tt; linked = tt; bytes = consumed-nil known }

-- all was read
pub IsAfterLog-ended : (whole left after : Option (List ℕ)) (n : ℕ) (C : List ChangeParts) → IsAfterLog whole left n C → FindsEnd left after → IsLog (log_of C) C × Consumes whole after (log_of C) × IsAtEnd after
IsAfterLog-ended whole left after n C present ends = (
  record { spelled = refl; each = present.each; linked = present.linked },
  subst (Consumes whole after) (append-nil (log_of C)) (consumed whole left after (log_of C) [] present.bytes ends.0),
  ends.1,
)

some_bytes : (c : ChangeParts) (more : List ℕ) → IsChange c → 0 < length (framed_change c ++ more)
some_bytes c more is =
    let prefix = length-append (framed_change c) more in
    let own = spelling_bounds c is in
    omega (arith, own.0)

-- the change that is next may not follow
pub IsLogFault-link : (whole left after : Option (List ℕ)) (n : ℕ) (C : List ChangeParts) (c : ChangeParts) (f : ShowFault) → IsAfterLog whole left n C → IsChange c → Consumes left after (framed_change c) → link_fault C c ≡ Some f → IfSome whole (λ b. IsLogFault b n f)
IsLogFault-link None left after n C c f present is took bad = tt
IsLogFault-link (Some b) None after n C c f present is took bad = absurd present.bytes
IsLogFault-link (Some b) (Some rest) None n C c f present is took bad = absurd took
IsLogFault-link (Some b) (Some rest) (Some more) n C c f present is took bad = record {
  good = C;
  rest = rest;
  count = present.count;
  spelled = present.bytes;
  each = present.each;
  linked = present.linked;
  more = subst (λ l. 0 < length l) (sym took) (some_bytes c more is);
  wrong = ap (λ l. fault_after C (logged_change_at l)) took ∙ ap (fault_after C) (entry_again c more is) ∙ bad;
}

-- ---- a log has no fault

same_entry : (c d : ChangeParts) (x y : List ℕ) → IsChange c → IsChange d → framed_change c ++ x ≡ framed_change d ++ y → (c ≡ d) × (x ≡ y)
same_entry c d x y p q e =
    pairs c d x y (sym (entry_again c x p) ∙ ap logged_change_at e ∙ entry_again d y q)
  where
    pairs : (c d : ChangeParts) (x y : List ℕ) → (let r : Result (ChangeParts × List ℕ) ShowFault = Ok (c, x) in r) ≡ Ok (d, y) → (c ≡ d) × (x ≡ y)
    pairs c d x y e = let p : (let q : ChangeParts × List ℕ = (c, x) in q) ≡ (d, y) = cc in (ap (λ (q : ChangeParts × List ℕ). q.0) p, ap (λ (q : ChangeParts × List ℕ). q.1) p)

nothing : (c : ChangeParts) (more : List ℕ) → IsChange c → [] ≡ framed_change c ++ more → ⊥
nothing c more is e = let some = some_bytes c more is in let none : 0 ≡ length (framed_change c ++ more) = ap length e in omega arith

no_fault : (before G C : List ChangeParts) (rest : List ℕ) (f : ShowFault) → AllByRecursion IsChange G → AllByRecursion IsChange C → LinkedAfter before C → log_of C ≡ log_of G ++ rest → 0 < length rest
    → fault_after (before ++ G) (logged_change_at rest) ≡ Some f → ⊥
no_fault before [] [] rest f good each linked e more wrong = let none : 0 ≡ length rest = ap length e in omega arith
no_fault before [] (c ∷ C) rest f good each linked e more wrong =
    let found : logged_change_at rest ≡ Ok (c, log_of C) = ap logged_change_at (sym e) ∙ entry_again c (log_of C) each.0 in
    let bad : link_fault (before ++ []) c ≡ Some f = sym (ap (fault_after (before ++ [])) found) ∙ wrong in
    let fine : link_fault (before ++ []) c ≡ None = subst (λ l. link_fault l c ≡ None) (sym (append-nil before)) linked.0 in
    cc
no_fault before (g ∷ G) [] rest f good each linked e more wrong = nothing g (log_of G ++ rest) good.0 (e ∙ append_assoc (framed_change g) (log_of G) rest)
no_fault before (g ∷ G) (c ∷ C) rest f good each linked e more wrong =
    let same = same_entry c g (log_of C) (log_of G ++ rest) each.0 good.0 (e ∙ append_assoc (framed_change g) (log_of G) rest) in
    let joined : before ++ (g ∷ G) ≡ (before ++ c ∷ []) ++ G = ap (λ x. before ++ x ∷ G) (sym same.0) ∙ sym (append_assoc before (c ∷ []) G) in
    no_fault (before ++ c ∷ []) G C rest f good.1 each.1 linked.1 same.1 more (subst (λ l. fault_after l (logged_change_at rest) ≡ Some f) joined wrong)

-- bytes that are a log have no fault
pub log_has_no_fault : (b : List ℕ) (C : List ChangeParts) (n : ℕ) (f : ShowFault) → IsLog b C → IsLogFault b n f → ⊥
log_has_no_fault b C n f log fault =
    no_fault [] fault.good C fault.rest f fault.each log.each log.linked (sym log.spelled ∙ fault.spelled) fault.more fault.wrong

pub IfSome-map : (o : Option (List ℕ)) (P Q : List ℕ → Type 0) → ((b : List ℕ) → P b → Q b) → IfSome o P → IfSome o Q
IfSome-map None P Q f h = tt
IfSome-map (Some b) P Q f h = f b h

pub IfSome-each : (o : Option (List ℕ)) (P : List ℕ → Type 0) → ((b : List ℕ) → P b) → IfSome o P
IfSome-each None P f = tt
IfSome-each (Some b) P f = f b
