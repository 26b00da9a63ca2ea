use Rattle.std.proofs.Common.{◌≡◌, ◌+◌, length, length-append, ap, ◌∙◌, arith}
use Rattle.tp_store.proofs.LayoutFields.{header_field, length-header, spell_header}
use Rattle.tp_store.proofs.layout.outline_at.Goals as goal

pub outline_after-requires : goal.outline_after-requires
outline_after-requires c =
    let t = header_field.takes c.args.reader.now c.in_ok-header.header c.header_of.new.reader c.requires.bytes c.in_ok-header.ensures in
    let size = length-header c.in_ok-header.header.id c.in_ok-header.header.count t.1.id in
    let whole : length c.args.reader.now ≡ length (spell_header c.in_ok-header.header) + length c.header_of.new.reader = ap length t.0 ∙ length-append (spell_header c.in_ok-header.header) c.header_of.new.reader in
    let small = c.requires.small in
    omega arith
