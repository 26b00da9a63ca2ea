-- What an append to a journal that may be armed, and a cut of it, do as those of any journal.
use Rattle.std.proofs.Common.{◌≡◌, ℕ, ◌∙◌, List, ◌++◌, take, Bool, true, false, ◌||◌, ◌&&◌, Option, Some, None, Result, Ok, Err, IfErr, refl, sym, ap, subst}
use Rattle.std.specs.Prelude.{IsErrAnd, IsOk, IsOkUnless, OnErr, OnOk, is_some}
use Rattle.tp_journal.specs.declared.error.JournalError.{JournalError}
use Rattle.tp_journal.specs.declared.error.JournalError.TheVariants.{Io, OutOfMemory}
use Rattle.tp_journal.specs.Journal.{CountsFailure, Device, FuseState, RefusesArmedAppend, RefusesAppend, with_failure, without_fuse}

-- the device of the journal
abbrev pub device_of : FuseState → Device
device_of j = record { failures = j.failures; can_fail = j.cut; fuse = j.append }

-- ---- appends

-- what an append does as that of any journal
pub record Appended {T : Type 0} (j : FuseState) (r : Result T JournalError) (bytes : List ℕ) (j' : FuseState) : Type 0 where
  pub ok : OnOk r (j'.content ≡ j.content ++ bytes)
  pub quiet : OnOk r (device_of j' ≡ without_fuse (device_of j))
  pub part : IfErr r (λ e. RefusesAppend j.content bytes e j'.content)
  pub counts : IfErr r (λ e. CountsFailure true e (device_of j) (device_of j'))

quiet_device : (j : FuseState) (bytes : List ℕ) → j.append ≡ None → device_of (record j { content = j.content ++ bytes }) ≡ without_fuse (device_of j)
quiet_device j bytes none = ap (λ (fuse : Option ℕ). let d : Device = record { failures = j.failures; can_fail = j.cut; fuse = fuse } in d) none

unarmed_append : {T : Type 0} (j j' : FuseState) (r : Result T JournalError) (bytes : List ℕ) → j.append ≡ None
    → IsOkUnless r OutOfMemory × OnOk r (j' ≡ record j { content = j.content ++ bytes }) × OnErr r (j' ≡ j) → Appended j r bytes j'
unarmed_append {T} j j' (Ok x) bytes none h = record {
  ok = ap (λ (k : FuseState). k.content) h.1;
  quiet = ap device_of h.1 ∙ quiet_device j bytes none;
  part = tt;
  counts = tt;
}
unarmed_append {T} j j' (Err Io) bytes none h = absurd (let e = h.0 in cc)
unarmed_append {T} j j' (Err OutOfMemory) bytes none h = record { ok = tt; quiet = tt; part = ap (λ (k : FuseState). k.content) h.2; counts = ap device_of h.2 }

armed_append : {T : Type 0} (j j' : FuseState) (r : Result T JournalError) (bytes : List ℕ) (kept : ℕ) → j.append ≡ Some kept → IsErrAnd r (λ e. RefusesArmedAppend j kept bytes e j') → Appended j r bytes j'
armed_append {T} j j' (Ok x) bytes kept some h = absurd h
armed_append {T} j j' (Err Io) bytes kept some h = record {
  ok = tt;
  quiet = tt;
  part = (kept, ap (λ (k : FuseState). k.content) h);
  counts = record {
    could = ap (λ (fuse : Option ℕ). is_some fuse || j.cut) some;
    counted = ap (λ (k : FuseState). k.failures) h;
    calm = λ calm. ap (λ (k : FuseState). k.cut) h ∙ calm;
    fuse = ap (λ (k : FuseState). k.append) h;
  };
}
armed_append {T} j j' (Err OutOfMemory) bytes kept some h = record { ok = tt; quiet = tt; part = ap (λ (k : FuseState). k.content) h; counts = ap device_of h }

append_by : {T : Type 0} (a : Option ℕ) (j j' : FuseState) (r : Result T JournalError) (bytes : List ℕ) → j.append ≡ a
    → ((kept : ℕ) → j.append ≡ Some kept → IsErrAnd r (λ e. RefusesArmedAppend j kept bytes e j'))
    → (j.append ≡ None → IsOkUnless r OutOfMemory × OnOk r (j' ≡ record j { content = j.content ++ bytes }) × OnErr r (j' ≡ j)) → Appended j r bytes j'
append_by {T} None j j' r bytes is armed unarmed = unarmed_append j j' r bytes is (unarmed is)
append_by {T} (Some kept) j j' r bytes is armed unarmed = armed_append j j' r bytes kept is (armed kept is)

pub fused_append : {T : Type 0} (j j' : FuseState) (r : Result T JournalError) (bytes : List ℕ)
    → ((kept : ℕ) → j.append ≡ Some kept → IsErrAnd r (λ e. RefusesArmedAppend j kept bytes e j'))
    → (j.append ≡ None → IsOkUnless r OutOfMemory × OnOk r (j' ≡ record j { content = j.content ++ bytes }) × OnErr r (j' ≡ j)) → Appended j r bytes j'
fused_append {T} j j' r bytes armed unarmed = append_by j.append j j' r bytes refl armed unarmed
