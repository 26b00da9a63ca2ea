-- What was found, with its texts.
use Rattle.std.proofs.Common.{◌≡◌, ℕ, List, subst, sym, Vec, Result, Ok, Err, IfOk}
use Rattle.std.specs.Global.{Global}
use Rattle.std.specs.List.{flat_map}
use Rattle.tp_snapshot.specs.declared.differences.Difference.{Difference}
use Rattle.tp_c.specs.Earlier.{text_bytes}
use Rattle.tp_c.specs.declared.earlier.Found.{Found}

-- what holds of the differences and their texts holds of what was found
pub if_found : (r : Result Found ℕ) (ds : Vec Difference Global) (P : List Difference → List ℕ → Type 0)
    → IfOk r (λ f. (f.differences ≡ ds) × (f.texts.items ≡ flat_map text_bytes ds.items)) → P ds.items (flat_map text_bytes ds.items) → IfOk r (λ f. P f.differences.items f.texts.items)
if_found (Ok f) ds P is p =
    subst (P f.differences.items) (sym is.1) (subst (λ (d : Vec Difference Global). P d.items (flat_map text_bytes ds.items)) (sym is.0) p)
if_found (Err e) ds P is p = tt
