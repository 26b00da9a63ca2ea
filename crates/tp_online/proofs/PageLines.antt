-- What is printed of a page.
use Rattle.std.proofs.Common.{◌≡◌, ◌⊎◌, inr, refl, sym, ℕ, List, [], ◌++◌, is_some, Option, Result, Ok, Err, append-nil}
use Rattle.std.specs.Prelude.{IfErr, OnOk}
use Rattle.std.specs.Io.KnownBytes.{Appends, Keeps}
use Rattle.std.specs.Net.Socket.{socket_ip}
use Rattle.std.specs.declared.net.socket_addr.SocketAddr.{SocketAddr}
use Rattle.tp_command_line.specs.declared.job.Hosting.{Hosting}
use Rattle.tp_textpeer.specs.Output.{AppendsPart}
use Rattle.tp_online.specs.Network.{IsPageShown, beside_line, page_line}
use Rattle.tp_report.specs.Telling.{GrowsBy, GrowsPart}

module _ (hosting : Hosting) (page : SocketAddr) (key : List ℕ) (port : Option ℕ) (old new : Option (List ℕ)) where
  -- its lines were written, whatever came then
  pub shown_page : {A E : Type 0} (done : Result A E) → socket_ip page ≡ socket_ip hosting.page → is_some port ≡ is_some hosting.serve
      → Appends old new (page_line page key ++ beside_line port) → OnOk done (GrowsBy (IsPageShown hosting) old new)
  shown_page (Ok x) ip beside wrote = (page_line page key ++ beside_line port, (page, key, port, ip, beside, refl), wrote)
  shown_page (Err e) ip beside wrote = tt

  pub stopped_page : {A E : Type 0} (done : Result A E) → socket_ip page ≡ socket_ip hosting.page → is_some port ≡ is_some hosting.serve
      → Appends old new (page_line page key ++ beside_line port) → IfErr done (λ e. Keeps old new ⊎ GrowsPart (IsPageShown hosting) old new)
  stopped_page (Ok x) ip beside wrote = tt
  stopped_page (Err e) ip beside wrote =
      inr (page_line page key ++ beside_line port, (page, key, port, ip, beside, refl), record { part = page_line page key ++ beside_line port; rest = []; begins = sym (append-nil (page_line page key ++ beside_line port)); grown = wrote })

  -- a part of them was
  pub stopped_within : socket_ip page ≡ socket_ip hosting.page → is_some port ≡ is_some hosting.serve
      → AppendsPart old new (page_line page key ++ beside_line port) → Keeps old new ⊎ GrowsPart (IsPageShown hosting) old new
  stopped_within ip beside part = inr (page_line page key ++ beside_line port, (page, key, port, ip, beside, refl), part)
