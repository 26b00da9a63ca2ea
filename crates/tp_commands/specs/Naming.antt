-- The names at the head of what `patch` takes.
use Rattle.std.specs.Prelude.{ℕ, List, [], ◌∷◌, ◌++◌, take, Bool, codes, ◌||◌, ◌==◌, if◌then◌else◌, encode_utf8}
use Rattle.std.specs.Char.{is_control}
use Rattle.std.specs.List.{flat_map}
use Rattle.std.specs.Str.{chars}
use Rattle.hex.specs.Hex.{encode_lower}
use Rattle.tp_opid.specs.declared.hash.Hash.{Hash}

-- what ends a name, or quotes it: a control character, a blank, a quote or a backslash
abbrev pub is_odd : ℕ → Bool
is_odd ch = is_control ch || ch == 32 || ch == 34 || ch == 92

-- a character of a name; for one that ends or quotes it an underscore
abbrev pub name_char : ℕ → List ℕ
name_char ch = if is_odd ch then codes "_" else encode_utf8 ch

-- the first eight digits of a head, after `@`
abbrev pub head_tag : Hash → List ℕ
head_tag h = codes "@" ++ encode_lower (take 4 h.0)

-- the first digits of all heads, or a word where there are none
abbrev pub heads_tag : List ℕ → List Hash → List ℕ
heads_tag none [] = codes "@" ++ none
heads_tag none (h ∷ hs) = flat_map head_tag (h ∷ hs)

-- the name of a file's text at some heads
abbrev pub name_of : List ℕ → List ℕ → List Hash → List ℕ
name_of file none hs = flat_map name_char (chars file) ++ heads_tag none hs

-- the lines of its names at some heads, and at others
abbrev pub name_lines : List ℕ → List Hash → List Hash → List ℕ
name_lines file from to = codes "--- " ++ name_of file (codes "empty") from ++ codes "\n+++ " ++ name_of file (codes "now") to ++ codes "\n"
