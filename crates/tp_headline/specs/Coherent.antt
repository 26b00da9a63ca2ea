-- What every world of lists keeps that acts lead to.
use Rattle.std.specs.Prelude.{ℕ, List, IsTrue}
use Rattle.tp_headline.specs.Common.{In, AllIn, ChangeParts, has_all, IsTextOf}
use Rattle.tp_history.specs.Sound.{Sound}
use Rattle.tp_headline.specs.Headline.{Lists, ReadRecord, HasList, seen_changes}

-- A read's heads are known, its text is that of the changes that it saw, and its peer has these.
pub record IsFaithful (s : Lists) (r : ReadRecord) : Type 0 where
  pub known : IsTrue (has_all s.made r.heads)
  pub text : IsTextOf (seen_changes s r) r.text
  pub list : List ChangeParts
  pub present : HasList s r.peer list
  pub has : AllIn (seen_changes s r) list

-- What was made is sound, and so is each list, whose changes were made; and each read is faithful.
pub record Coherent (s : Lists) : Type 0 where
  pub sound : Sound s.made
  pub lists : (n : ℕ) (C : List ChangeParts) → HasList s n C → Sound C
  pub were_made : (n : ℕ) (C : List ChangeParts) → HasList s n C → AllIn C s.made
  pub reads : (r : ReadRecord) → In r s.reads → IsFaithful s r
