-- What a handle owns: the editor at its address, and the right to free its block.
use Rattle.std.specs.Prelude.{Option, Some, None}
use base.Fml.{Fml, ftrue}
use denote.RattleType.{RattleType}
use denote.RawPtr.{Ptr}
use Rattle.std.specs.declared.alloc.Global.{Global}
use Rattle.std.specs.contracts.impls.GlobalAllocator.TheImpl.{ghosts}
use Rattle.std.specs.Box.Ownership.{box_owns}
use Rattle.tp_journal.specs.contracts.optional.OptionalJournal as kept
use Rattle.tp_journal.specs.contracts.optional.OptionalJournalJournal.TheImpl as journal
use Rattle.tp_editor.specs.EditorState.{EditorState}
use Rattle.tp_editor.specs.contracts.editor.Editor.{the_row}

-- an editor over a journal in a file, or over none, as a type
abbrev pub editor_row : RattleType
editor_row = the_row kept.the_row journal.ghosts

abbrev pub editor_owned : Global → Ptr → EditorState → Fml
editor_owned a p x = box_owns (ghosts.dealloc_token a) editor_row p x

-- what the place of a handle owns: the same where an editor was put there, and else nothing
abbrev pub slot_owned : Global → Ptr → Option EditorState → Fml
slot_owned a p None = ftrue
slot_owned a p (Some x) = editor_owned a p x
