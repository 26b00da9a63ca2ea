-- Texts that are no hash's digits.
use Rattle.std.proofs.Common.{◌≡◌, ℕ, ◌<◌, List, length, get_or, subst, sym}
use Rattle.std.specs.Prelude.{Any, Result, Ok, Err, String}
use Rattle.std.specs.String.{string_bytes}
use Rattle.std.specs.declared.alloc.Global.{Global}
use Rattle.tp_opid.specs.HexText.{IsHexOf}
use Rattle.tp_opid.specs.declared.hash.Hash.{Hash}
use Rattle.tp_opid.specs.declared.hex_text.HexError.{HexError}
use Rattle.tp_window.specs.Requests.{SpellsNoHash}

-- a text that is refused spells no hash, where a text of a hash would give it
pub SpellsNoHash-refused : (text : String Global) (bytes : List ℕ) (r : Result Hash HexError) (e : HexError) → bytes ≡ string_bytes text
    → ((x : Hash) → length x.0 ≡ 32 → IsHexOf bytes x.0 → r ≡ Ok x) → r ≡ Err e → SpellsNoHash text
SpellsNoHash-refused text bytes r e same only is hash long spelled =
    let given : r ≡ Ok hash = only hash long (subst (λ (bs : List ℕ). IsHexOf bs hash.0) (sym same) spelled) in cc

-- so one of the texts spells none
pub Any-SpellsNoHash : (ts : List (String Global)) (i : ℕ) (t : String Global) → i < length ts → t ≡ get_or ts i t → SpellsNoHash t → Any SpellsNoHash ts
Any-SpellsNoHash ts i t lt at none = (i, t, lt, sym at, none)
