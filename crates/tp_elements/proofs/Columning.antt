-- Columns: what a read finds of the entries, and what one more leaves of them.
use Rattle.std.proofs.Common.{◌≡◌, ℕ, zero, suc, ◌<◌, List, [], ◌∷◌, ◌++◌, length, get_or, refl, sym, ap, ◌∙◌, arith}
use Rattle.tp_elements.specs.declared.columns.Row.{Row}
use Rattle.tp_elements.specs.declared.entry.Entry.{Entry}
use Rattle.tp_elements.specs.Columns.{entry_of, entries_of}
use Rattle.tp_elements.specs.Entered.{entry_at}

-- there are as many entries as rows
pub length-entries_of : (rows : List Row) (chars : List ℕ) → length chars ≡ length rows → length (entries_of rows chars) ≡ length rows
length-entries_of [] chars e = refl
length-entries_of (r ∷ rows) [] e = absurd (omega arith)
length-entries_of (r ∷ rows) (ch ∷ chars) e = ap suc (length-entries_of rows chars (omega arith))

-- the entry of a row that was read and of the character at its place
row_there : (rows : List Row) (chars : List ℕ) (k : ℕ) (r : Row) → length chars ≡ length rows → k < length rows → r ≡ get_or rows k r → entry_at (entries_of rows chars) k ≡ entry_of r (get_or chars k 0)
row_there [] chars k r e lt read = absurd (omega arith)
row_there (q ∷ rows) [] k r e lt read = absurd (omega arith)
row_there (q ∷ rows) (ch ∷ chars) zero r e lt read = ap (λ (w : Row). entry_of w ch) (sym read)
row_there (q ∷ rows) (ch ∷ chars) (suc k) r e lt read = row_there rows chars k r (omega arith) (omega arith) read

-- the number of an entry is within both columns
pub column_within : (rows : List Row) (chars : List ℕ) (E : List Entry) (k : ℕ) → length chars ≡ length rows → entries_of rows chars ≡ E → k < length E → (k < length rows) × (k < length chars)
column_within rows chars E k e view lt =
    let size = length-entries_of rows chars e in
    let same = ap (λ (z : List Entry). length z) view in (omega arith, omega arith)

-- a row that was read has what its entry has
pub row_read : (rows : List Row) (chars : List ℕ) (E : List Entry) (k : ℕ) (r : Row) → length chars ≡ length rows → entries_of rows chars ≡ E → k < length E → r ≡ get_or rows k r → entry_of r (get_or chars k 0) ≡ entry_at E k
row_read rows chars E k r e view lt read =
    let within = column_within rows chars E k e view lt in
    sym (row_there rows chars k r e within.0 read) ∙ ap (λ z. entry_at z k) view

-- a character that was read is that of its entry
pub char_read : (rows : List Row) (chars : List ℕ) (E : List Entry) (k c : ℕ) → length chars ≡ length rows → entries_of rows chars ≡ E → k < length E → c ≡ get_or chars k c → c ≡ (entry_at E k).ch
char_read rows chars E k c e view lt read =
    let within = column_within rows chars E k e view lt in
    at rows chars k c e within.0 read ∙ ap (λ z. (entry_at z k).ch) view
  where
    at : (rows : List Row) (chars : List ℕ) (k c : ℕ) → length chars ≡ length rows → k < length rows → c ≡ get_or chars k c → c ≡ (entry_at (entries_of rows chars) k).ch
    at [] chars k c e lt read = absurd (omega arith)
    at (q ∷ rows) [] k c e lt read = absurd (omega arith)
    at (q ∷ rows) (ch ∷ chars) zero c e lt read = read
    at (q ∷ rows) (ch ∷ chars) (suc k) c e lt read = at rows chars k c (omega arith) (omega arith) read

-- the entries with one more
pub entries_more : (rows : List Row) (chars : List ℕ) (r : Row) (ch : ℕ) → length chars ≡ length rows → entries_of (rows ++ r ∷ []) (chars ++ ch ∷ []) ≡ entries_of rows chars ++ entry_of r ch ∷ []
entries_more [] [] r ch e = refl
entries_more [] (c ∷ chars) r ch e = absurd (omega arith)
entries_more (q ∷ rows) [] r ch e = absurd (omega arith)
entries_more (q ∷ rows) (c ∷ chars) r ch e = ap (λ z. entry_of q c ∷ z) (entries_more rows chars r ch (omega arith))
