-- The definition of the command line, subcommand by subcommand.
use Rattle.std.proofs.Common.{◌≡◌, ◌∙◌, [], ◌∷◌, ◌++◌, ap, false}
use Rattle.std.specs.Prelude.{◌||◌, IfErr, IfOk, Ok, Err, Result}
use Rattle.clap.specs.Words.{AddsArg, App, Rule, Shape, rule_of, with_rule}
use Rattle.clap.specs.declared.builder.arg.Arg.{Arg}
use Rattle.clap.specs.declared.builder.command.Command.{Command}
use Rattle.tp_command_line.specs.Commands.{IsLeaf}

-- an argument with this rule was added
pub argument_added : (s : Shape) (r : Rule) (old : Command) (a : Arg) (new : Command) → IsLeaf s old → rule_of a ≡ r → a.global ≡ false → AddsArg old a new
    → IsLeaf (record s { rules = s.rules ++ r ∷ [] }) new
argument_added s r old a new leaf is local added = record {
  app = added.shape local ∙ (ap (λ (x : App). with_rule x (rule_of a)) leaf.app ∙ ap (λ (x : Rule). with_rule (record { top = s; subs = [] }) x) is);
  local = added.globals ∙ (ap (λ b. b || a.global) leaf.local ∙ local);
}

-- what follows of each value of an `Ok`
pub IfOk-map : {X E : Type 0} (r : Result X E) (P Q : X → Type 0) → ((x : X) → P x → Q x) → IfOk r P → IfOk r Q
IfOk-map (Ok x) P Q f h = f x h
IfOk-map (Err e) P Q f h = tt

-- and of each error
pub IfErr-map : {X E : Type 0} (r : Result X E) (P Q : E → Type 0) → ((e : E) → P e → Q e) → IfErr r P → IfErr r Q
IfErr-map (Ok x) P Q f h = tt
IfErr-map (Err e) P Q f h = f e h
