-- What a document takes from another: the changes that it hasn't.
use Rattle.std.specs.Prelude.{List, [], ◌∷◌, if◌then◌else◌}
use Rattle.tp_document.specs.Common.{ChangeParts, hash_of, has}

-- the changes of D whose hash no change of C has, in their order
abbrev pub absent : List ChangeParts → List ChangeParts → List ChangeParts
absent C [] = []
absent C (d ∷ D) = if has C (hash_of d) then absent C D else d ∷ absent C D
