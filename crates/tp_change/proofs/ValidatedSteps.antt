-- One step of validating a list.
use Rattle.std.proofs.Common.{◌≡◌, ℕ, ◌+◌, ◌-◌, ◌<◌, true, ◌&&◌, List, ◌∷◌, length, get_or, drop, Option, Some, Ok, sym, ap, ◌∙◌}
use Rattle.std.proofs.lemmas.List.{at_drop_more}
use Rattle.tp_opid.specs.declared.hash.Hash.{Hash}
use Rattle.tp_layout.specs.declared.record.Record.{Record}
use Rattle.tp_layout.specs.Counts.{count_in}
use Rattle.tp_change.specs.Validated.{is_above, rises_after, ◌and_then◌, validated_record, validated_records}

-- a hash that is above the one before it leaves the validation to those after it
pub rises_step : (before : Option Hash) (hs : List Hash) (i : ℕ) (d : Hash) → i < length hs → is_above before (get_or hs i d) ≡ true → rises_after (Some (get_or hs i d)) (drop (i + 1) hs) ≡ rises_after before (drop i hs)
rises_step before hs i d lt h =
    sym (at_drop_more (rises_after before) hs i d lt ∙ ap (λ b. b && rises_after (Some (get_or hs i d)) (drop (i + 1) hs)) h)

-- a record with no fault leaves the validation to those after it
pub records_step : (room : ℕ) (rs : List Record) (i : ℕ) (r : Record) (count : ℕ) → i < length rs → r ≡ get_or rs i r → validated_record room r ≡ Ok tt → count ≡ count_in r → validated_records (room - count) (drop (i + 1) rs) ≡ validated_records room (drop i rs)
records_step room rs i r count lt here h n =
    let first : validated_records room (drop i rs) ≡ validated_records room (r ∷ drop (i + 1) rs) =
    at_drop_more (validated_records room) rs i r lt ∙ ap (λ x. validated_records room (x ∷ drop (i + 1) rs)) (sym here) in
    sym (first ∙ ap (λ j. j and_then validated_records (room - count_in r) (drop (i + 1) rs)) h ∙ ap (λ k. validated_records (room - k) (drop (i + 1) rs)) (sym n))
