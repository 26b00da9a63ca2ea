use Rattle.std.proofs.Common.{rules}
use Rattle.tp_snapshot.proofs.Common.{string_bytes, subst}
use Rattle.tp_snapshot.proofs.BuilderLaws.{chars_pushed}
use Rattle.std.specs.Prelude.{is_ok}
use Rattle.std.specs.Str.{IsUtf8}
use Rattle.tp_snapshot.proofs.difference_builder.push_char.Goals as goal

pub returns : goal.returns
returns c = chars_pushed (string_bytes c.args.text.now) (string_bytes c.push.new.self) c.args.ch (is_ok c.push.result) (subst IsUtf8 c.as_str-utf8.ensures.value c.as_str-utf8.utf8) (search rules) c.push.ensures.bytes
