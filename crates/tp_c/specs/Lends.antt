-- A handle whose editor is lent.
use base.Fml.{Fml}
use denote.Ref.{MutBor}
use denote.Follow.{follows}
use Rattle.tp_editor.specs.EditorState.{EditorState}
use Rattle.tp_c.specs.Owned.{editor_row}
use Rattle.tp_c.specs.declared.handle.Handle.{Handle}
use Rattle.tp_c.specs.contracts.handle.Handle.{the_row as handle_row}

-- the handle with another editor behind it
abbrev pub with_editor : Handle → EditorState → Handle
with_editor h x = record h { editor = x }

-- once the borrow r ends, the editor behind the handle is the last one written through r
abbrev pub lends : MutBor Handle → MutBor EditorState → Fml
lends h r = follows handle_row editor_row h.ghost_name r.ghost_name (with_editor h.now)
