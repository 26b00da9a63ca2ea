-- What `log --pretty` prints: a line for each change, for people.
use Rattle.std.specs.Prelude.{◌≡◌, ◌⊎◌, ◌<◌, ◌≤◌, ◌-◌, ◌/◌, ◌%◌, ℕ, List, [], ◌∷◌, ◌++◌, length, codes, drop, reverse, take, pos, ◌*ℤ◌}
use Rattle.std.specs.Fmt.{decimal, signed_decimal}
use Rattle.hex.specs.Hex.{encode_lower}
use Rattle.jiff_core.specs.DateTime.{civil_nanos}
use Rattle.jiff_core.specs.declared.civil.date.Date.{Date}
use Rattle.jiff_core.specs.declared.civil.datetime.DateTime.{DateTime}
use Rattle.jiff_core.specs.declared.civil.time.Time.{Time}
use Rattle.tp_change.specs.ChangeHash.{hash_of}
use Rattle.tp_layout.specs.declared.parts.ChangeParts.{ChangeParts}
use Rattle.tp_commands.specs.Log.{deleted_count, inserted_count, message_part, newest}
use Rattle.tp_commands.specs.Reading.{HasChanges}
use Rattle.tp_list.specs.Bytes.{line}

abbrev pub two_digits : ℕ → List ℕ
two_digits n = decimal (n / 10) ++ decimal (n % 10)

-- the date, as `2026-11-28`
abbrev pub day_text : Date → List ℕ
day_text d = signed_decimal d.year ++ codes "-" ++ two_digits d.month ++ codes "-" ++ two_digits d.day

-- the time of day, as `03:20:11`
abbrev pub clock_text : Time → List ℕ
clock_text t = two_digits t.hour ++ codes ":" ++ two_digits t.minute ++ codes ":" ++ two_digits t.second

-- the last second of the year 9999
abbrev pub last_second : ℕ
last_second = 253402300799

-- The text is the date and the time of day in UTC that are that many seconds after 1970 began; `-` for none; and the
-- number itself after the year 9999.
abbrev pub IsDateText : ℕ → List ℕ → Type 0
IsDateText seconds text = ((seconds ≡ 0) × (text ≡ codes "-"))
    ⊎ (((0 < seconds) × (seconds ≤ last_second) × ((dt : DateTime) × (civil_nanos dt ≡ pos seconds *ℤ pos 1000000000) × (text ≡ day_text dt.date ++ codes " " ++ clock_text dt.time)))
    ⊎ ((last_second < seconds) × (text ≡ decimal seconds)))

-- what the line of a change is before its message, with this date
abbrev pub pretty_fields : ChangeParts → List ℕ → List ℕ
pretty_fields c date =
    encode_lower (take 4 (hash_of c).0) ++ codes " " ++ date ++ codes " " ++ encode_lower (take 4 c.actor.0) ++ codes " +" ++ decimal (inserted_count c)
    ++ codes " -" ++ decimal (deleted_count c)

abbrev pub dated_line : ChangeParts → List ℕ → List ℕ
dated_line c date = line (pretty_fields c date ++ message_part c.message)

-- The line of a change: the first eight digits of its hash, its date, the first eight digits of its actor, what it inserts and
-- deletes, and its message as `log` prints it.
abbrev pub IsPrettyLine : ChangeParts → List ℕ → Type 0
IsPrettyLine c printed = (date : List ℕ) × IsDateText c.time date × (printed ≡ dated_line c date)

-- the bytes are the lines of the changes, one after another
abbrev pub ArePrettyLines : List ChangeParts → List ℕ → Type 0
ArePrettyLines [] printed = printed ≡ []
ArePrettyLines (c ∷ C) printed =
    (first : List ℕ) × (rest : List ℕ) × (printed ≡ first ++ rest) × IsPrettyLine c first × ArePrettyLines C rest

-- What is printed are the lines of the newest of a journal's changes, the newest first.
pub record IsPrettyLog (journal : List ℕ) (most : ℕ) (printed : List ℕ) : Type 0 where
  pub changes : List ChangeParts
  pub recovers : HasChanges journal changes
  pub lines : ArePrettyLines (reverse (newest most changes)) printed
