-- The text of a refusal.
use Rattle.std.specs.Prelude.{ℕ, Bool, true, false, List, ◌++◌, codes, if◌then◌else◌}
use Rattle.std.specs.Fmt.{decimal}
use Rattle.tp_layout.specs.declared.error.ChangeError.{ChangeError}
use Rattle.tp_layout.specs.declared.error.ChangeError.TheVariants as change
use Rattle.tp_textpeer.specs.declared.error.ShowError.{ShowError}
use Rattle.tp_textpeer.specs.declared.error.ShowFault.{ShowFault}
use Rattle.tp_textpeer.specs.declared.error.ShowFault.TheVariants as fault

-- the names of what is wrong with a change
abbrev pub change_name : ChangeError → List ℕ
change_name change.Version = codes "Version"
change_name change.Short = codes "Short"
change_name change.Trailing = codes "Trailing"
change_name change.ZeroSeqOrStart = codes "ZeroSeqOrStart"
change_name change.BadUtf8 = codes "BadUtf8"
change_name change.DepsOrder = codes "DepsOrder"
change_name change.NoRecords = codes "NoRecords"
change_name change.BadTag = codes "BadTag"
change_name change.EmptyRun = codes "EmptyRun"
change_name change.Limit = codes "Limit"
change_name change.OutOfMemory = codes "OutOfMemory"
change_name change.NoRun = codes "NoRun"

-- the name of the innermost refusal
abbrev pub fault_name : ShowFault → List ℕ
fault_name fault.NotChain = codes "NotChain"
fault_name fault.BadSeq = codes "BadSeq"
fault_name fault.BadStart = codes "BadStart"
fault_name fault.BadReference = codes "BadReference"
fault_name (fault.Change e) = change_name e
fault_name fault.OutOfMemory = codes "OutOfMemory"
fault_name fault.Io = codes "Io"

-- the fault says nothing of the log
abbrev pub is_outside : ShowFault → Bool
is_outside fault.OutOfMemory = true
is_outside fault.Io = true
is_outside _ = false

-- the line that is printed of a refusal
abbrev pub show_refusal_text : ShowError → List ℕ
show_refusal_text e = if is_outside e.fault then codes "textpeer: " ++ fault_name e.fault
    else codes "show: change " ++ decimal e.change ++ codes ": " ++ fault_name e.fault
