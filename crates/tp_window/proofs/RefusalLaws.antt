-- Why a request that means no heads is refused, and a page that is resumed at none.
use Rattle.std.proofs.Common.{◌≡◌, ◌⊎◌, ℕ, List, Option, None, Some, String, inl, inr, subst, sym}
use Rattle.std.specs.Prelude.{Any, IfErr, Result, Ok, Err, Vec}
use Rattle.std.specs.declared.alloc.Global.{Global}
use Rattle.tp_layout.specs.declared.parts.ChangeParts.{ChangeParts}
use Rattle.tp_opid.specs.declared.hash.Hash.{Hash}
use Rattle.tp_window.specs.Requests.{RefusesMeaning, RefusesResuming, SpellsNoHash}
use Rattle.tp_window.specs.declared.error.WindowError.{WindowError}
use Rattle.tp_window.specs.declared.error.WindowError.TheVariants.{BadRequest, OutOfMemory}
use Rattle.tp_window.specs.declared.memory.Memory.{Memory}

-- a list whose texts spell no hashes
spelled_badly : (memory : Memory) (texts : Vec (String Global) Global) (e : WindowError)
    → (e ≡ OutOfMemory) ⊎ ((e ≡ BadRequest) × Any SpellsNoHash texts.items) → RefusesMeaning memory (Some texts) None e
spelled_badly memory texts e (inl is) = subst (λ (x : WindowError). RefusesMeaning memory (Some texts) None x) (sym is) tt
spelled_badly memory texts e (inr bad) = subst (λ (x : WindowError). RefusesMeaning memory (Some texts) None x) (sym bad.0) bad.1

pub list_refused : (memory : Memory) (heads : Option (Vec (String Global) Global)) (on : Option ℕ) (texts : Vec (String Global) Global) (list : List (String Global))
    (r : Result (Vec Hash Global) WindowError) → heads ≡ Some texts → on ≡ None → list ≡ texts.items
    → IfErr r (λ e. (e ≡ OutOfMemory) ⊎ ((e ≡ BadRequest) × Any SpellsNoHash list)) → IfErr r (RefusesMeaning memory heads on)
list_refused memory heads on texts list (Ok hashes) named no_number same err = tt
list_refused memory heads on texts list (Err e) named no_number same err =
    let at : RefusesMeaning memory (Some texts) None e =
    spelled_badly memory texts e (subst (λ (ts : List (String Global)). (e ≡ OutOfMemory) ⊎ ((e ≡ BadRequest) × Any SpellsNoHash ts)) same err) in
    subst (λ (h : Option (Vec (String Global) Global)). RefusesMeaning memory h on e) (sym named)
    (subst (λ (o : Option ℕ). RefusesMeaning memory (Some texts) o e) (sym no_number) at)

-- so it is of a page that is resumed
resumed_badly : (C : List ChangeParts) (texts : Vec (String Global) Global) (e : WindowError)
    → (e ≡ OutOfMemory) ⊎ ((e ≡ BadRequest) × Any SpellsNoHash texts.items) → RefusesResuming C (Some texts) None e
resumed_badly C texts e (inl is) = subst (λ (x : WindowError). RefusesResuming C (Some texts) None x) (sym is) tt
resumed_badly C texts e (inr bad) = subst (λ (x : WindowError). RefusesResuming C (Some texts) None x) (sym bad.0) bad.1

pub list_not_resumed : (C : List ChangeParts) (heads : Option (Vec (String Global) Global)) (count : Option ℕ) (texts : Vec (String Global) Global) (list : List (String Global))
    (r : Result (Vec Hash Global) WindowError) → heads ≡ Some texts → count ≡ None → list ≡ texts.items
    → IfErr r (λ e. (e ≡ OutOfMemory) ⊎ ((e ≡ BadRequest) × Any SpellsNoHash list)) → IfErr r (RefusesResuming C heads count)
list_not_resumed C heads count texts list (Ok hashes) named no_number same err = tt
list_not_resumed C heads count texts list (Err e) named no_number same err =
    let at : RefusesResuming C (Some texts) None e =
    resumed_badly C texts e (subst (λ (ts : List (String Global)). (e ≡ OutOfMemory) ⊎ ((e ≡ BadRequest) × Any SpellsNoHash ts)) same err) in
    subst (λ (h : Option (Vec (String Global) Global)). RefusesResuming C h count e) (sym named)
    (subst (λ (o : Option ℕ). RefusesResuming C (Some texts) o e) (sym no_number) at)
