-- What the request for a WebSocket is answered with.
use Rattle.std.specs.Prelude.{◌≡◌, ℕ, List, [], map, Ok}
use Rattle.httparse.specs.Grammar.{ReadsRequest, RequestHead}
use Rattle.httparse.specs.Spans.{name_and_value}
use Rattle.websocket.specs.Handshake.{IsValidKey, accept_key_of, requested_key, response_bytes}
use Rattle.tp_web.specs.declared.head.Accepted.{Accepted}

-- The bytes begin with a head that asks for a WebSocket by a key; that key is answered, and what comes after the head
-- stays.
pub record IsAcceptance (bytes : List ℕ) (accepted : Accepted) : Type 0 where
  pub head : RequestHead
  pub reads : ReadsRequest bytes head accepted.beyond.items
  pub key : List ℕ
  pub asked : requested_key head.method head.minor (map name_and_value head.fields) ≡ Ok key
  pub valid : IsValidKey key
  pub answered : accepted.response.items ≡ response_bytes (accept_key_of key) []
