-- What is read of an editor.
use Rattle.std.specs.Prelude.{◌≡◌, ◌⊎◌, ℕ, List, length, Some, None}
use Rattle.tp_opid.specs.declared.op_id.OpId.{OpId}
use Rattle.tp_layout.specs.declared.parts.ChangeParts.{ChangeParts}
use Rattle.tp_snapshot.specs.Showing.{HasElementAt, HasPosition}
use Rattle.tp_editor.specs.EditorState.{EditorState, KeepsRest}
use Rattle.tp_c.specs.declared.cursors.Element.{Element}

-- Only the answer may be another one, and where the call was refused that is as it was too. The length is the answer's.
pub record OnlyAnswers (e : EditorState) (status len : ℕ) (e' : EditorState) : Type 0 where
  pub peer : e'.peer ≡ e.peer
  pub rest : KeepsRest e e'
  pub same : (status ≡ 0 → ⊥) → e'.answer ≡ e.answer
  pub tells : len ≡ length e'.answer

-- the identifier that C holds as this element
abbrev pub id_of_element : Element → OpId
id_of_element x = record { counter = x.counter; actor = record { 0 = x.actor } }

-- What was found at a position of the text: the visible element there, or none, and then nothing was written.
abbrev pub FindsElement : List ChangeParts → ℕ → ℕ → Element → Element → Type 0
FindsElement C at status x x' =
    ((status ≡ 0) × HasElementAt C at (Some (id_of_element x')))
    ⊎ ((status ≡ 101) × HasElementAt C at None × (x' ≡ x))

-- Where an element was found: how many visible ones are before it, or it isn't there, and then nothing was written.
abbrev pub Locates : List ChangeParts → Element → ℕ → ℕ → ℕ → Type 0
Locates C x status at at' =
    ((status ≡ 0) × HasPosition C (id_of_element x) (Some at'))
    ⊎ ((status ≡ 106) × HasPosition C (id_of_element x) None × (at' ≡ at))

-- the element of these parts
abbrev pub of_parts : ℕ → List ℕ → Element
of_parts counter actor = record { counter = counter; actor = actor }

-- a cursor's element is found, where it is written and given in parts
abbrev pub FindsParts : List ChangeParts → ℕ → ℕ → ℕ → List ℕ → ℕ → List ℕ → Type 0
FindsParts C at status counter actor counter' actor' = FindsElement C at status (of_parts counter actor) (of_parts counter' actor')

abbrev pub LocatesParts : List ChangeParts → ℕ → List ℕ → ℕ → ℕ → ℕ → Type 0
LocatesParts C counter actor status at at' = Locates C (of_parts counter actor) status at at'
