-- The words that are read before the parser reads the others.
use Rattle.std.specs.Prelude.{◌||◌, ℕ, Bool, if◌then◌else◌, List, [], ◌∷◌, codes, remove, slice_index_or}
use Rattle.std.specs.List.{position_or_len}
use Rattle.std.specs.Str.{bytes_eq}
use Rattle.clap.specs.Words.{Text}

abbrev pub is_explain : Text → Bool
is_explain word = bytes_eq word (codes "--explain")

-- the word is that, or `--`, after which each word is a value
abbrev pub ends_search : Text → Bool
ends_search word = is_explain word || bytes_eq word (codes "--")

-- the place of the first such word, or how many words there are
abbrev pub explain_place : List Text → ℕ
explain_place words = position_or_len ends_search words

-- one of the words is `--explain`, before any `--`
abbrev pub asks_to_explain : List Text → Bool
asks_to_explain words = is_explain (slice_index_or words (explain_place words) [])

-- the words without the first `--explain`
abbrev pub without_explain : List Text → List Text
without_explain words = if asks_to_explain words then remove words (explain_place words) else words

-- `help COMMAND ..` after the program's name is `COMMAND --help ..`, and `help` alone is `--help`
abbrev pub with_help : List Text → List Text
with_help (program ∷ word ∷ []) = if bytes_eq word (codes "help") then program ∷ codes "--help" ∷ [] else program ∷ word ∷ []
with_help (program ∷ word ∷ command ∷ words) = if bytes_eq word (codes "help") then program ∷ command ∷ codes "--help" ∷ words else program ∷ word ∷ command ∷ words
with_help words = words

-- what the parser reads
abbrev pub job_words : List Text → List Text
job_words words = with_help (without_explain words)
