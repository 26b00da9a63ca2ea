use Rattle.std.proofs.Common.{◌≡◌, ◌∙◌, ap, arith, lit<, subst, sym, true}
use Rattle.clap.specs.Words.{Text}
use Rattle.tp_command_line.specs.Values.{IsPort, is_host_name}
use Rattle.tp_command_line.proofs.Hosts.{has_colon, name_before, port_after}
use Rattle.tp_command_line.proofs.texts.host_in.Goals as goal

-- there is no colon
pub returns-in-None : goal.returns-in-None
returns-in-None c name port is = has_colon c.args.text.now name port is (c.in-None.ensures.byte (lit< tt) (λ w o f. f))

-- what is before the colon is no name
pub returns-then-not-is_host_name : goal.returns-then-not-is_host_name
returns-then-not-is_host_name c name port is =
    let parts = c.in-Some.ensures.byte (lit< tt) (λ w o f. f) in
    let same : c.in-Some.name.now ≡ name = parts.0 ∙ name_before c.args.text.now name port is in
    let named : is_host_name c.in-Some.name.now ≡ true = ap is_host_name same ∙ is.named in
    grind arith

-- what is after it is no port
pub returns-in-Err : goal.returns-in-Err
returns-in-Err c name port is =
    let parts = c.in-Some.ensures.byte (lit< tt) (λ w o f. f) in
    let port_is = subst (λ (t : Text). IsPort t port) (sym parts.1) (port_after c.args.text.now name port is) in
    c.in-Err.ensures.value.0 (port_is.digits, rw (← port_is.value) port_is.small)
