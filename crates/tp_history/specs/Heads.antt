-- The heads of changes.
use Rattle.std.specs.Prelude.{List, [], ◌∷◌, if◌then◌else◌}
use Rattle.tp_history.specs.Common.{rising, Hash, hash_cmp, ChangeParts, hash_of}
use Rattle.tp_history.specs.Named.{among, is_needed}

-- the hashes of the changes of C on which none of D depends, in the order of C
abbrev pub not_needed : List ChangeParts → List ChangeParts → List Hash
not_needed D [] = []
not_needed D (c ∷ C) = if is_needed D c then not_needed D C else hash_of c ∷ not_needed D C

-- the hashes of the changes on which no other depends, rising
abbrev pub heads : List ChangeParts → List Hash
heads C = rising hash_cmp (not_needed C C)

-- the hashes that are none of H
abbrev pub without : List Hash → List Hash → List Hash
without H [] = []
without H (h ∷ hs) = if among H h then without H hs else h ∷ without H hs
