-- The version and the lists of a message, as its parts.
use Rattle.tp_message.specs.declared.message.Lists.{Lists}
use Rattle.tp_message.specs.Message.{MessageParts}

abbrev pub parts_in : Lists → MessageParts
parts_in l = record { version = l.version; heads = l.heads.items; wants = l.wants.items; known = l.known.items; changes = l.changes.items }
