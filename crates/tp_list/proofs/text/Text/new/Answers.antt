use Rattle.tp_list.proofs.Utf8Laws.{IsEncodedText_utf8}
use Rattle.tp_list.proofs.text.Text.new.Goals as goal

pub invariant_of-result : goal.invariant_of-result
invariant_of-result c = rw c.as_str-utf8.ensures at (IsEncodedText_utf8 _ c.as_str-utf8.utf8)
