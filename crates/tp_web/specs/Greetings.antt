-- By which codes a page and the program show each other that they know the key.
use Rattle.std.specs.Prelude.{ℕ, List, ◌++◌, codes}
use Rattle.tp_hmac.specs.Hmac.{hmac}

-- the page's code, of the program's challenge and its own
abbrev pub page_code : List ℕ → List ℕ → List ℕ → List ℕ
page_code key ours theirs = hmac key (codes "textpeer page" ++ ours ++ theirs)

-- the program's code
abbrev pub program_code : List ℕ → List ℕ → List ℕ → List ℕ
program_code key ours theirs = hmac key (codes "textpeer program" ++ ours ++ theirs)
