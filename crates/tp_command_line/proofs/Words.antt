-- Words without a fault leave rows that are filled.
use Rattle.std.proofs.Common.{◌≡◌, ℕ, Bool, true, false, zero, suc, refl, List, [], ◌∷◌, length, Option, Some, None, is_some}
use Rattle.std.specs.Prelude.{◌&&◌, if◌then◌else◌, find, fold, slice_get}
use Rattle.std.specs.Option.{option_map_or}
use Rattle.std.specs.Str.{bytes_eq, chars}
use Rattle.clap.specs.Lexer.{long_of, short_of}
use Rattle.clap.specs.declared.error.kind.ErrorKind.TheVariants as kind
use Rattle.clap.specs.Kinds.{Kinds, or_else}
use Rattle.clap.specs.Walk.{Held, Names, Outcome, Row, Rule, Step, Text, Waiting, Walk, idle, option, positional, done, waits, plain, refused, next, trailing, subcommand, value}
use Rattle.clap.specs.Walk.{after_flag, after_step, arg_by_id, arg_by_index, arg_by_long, arg_by_short, attached_value, bundle_met, bundle_step}
use Rattle.clap.specs.Walk.{flag_met, is_pending, long_met, long_or_other, option_met, option_word, plain_word, pushed}
use Rattle.clap.specs.Walk.{reacted, settled, settled_rows, short_met, short_or_plain, subcommand_met, subcommand_or_other, takes_several, takes_values, to_positional}
use Rattle.clap.specs.Walk.{used, used_by_id, walked, walked_from, word_met}
use Rattle.clap.specs.Simple.{Shape}
use Rattle.clap.specs.Faults.{bundle_fault, bundle_step_fault, flag_word_fault, flags_fault, long_fault, option_fault, other_fault, positional_fault, react_fault, settle_fault, short_fault, step_fault, stray_fault, turn_fault, use_fault, walk_fault, word_fault}
use Rattle.tp_command_line.proofs.Rows.{AllFilled, or_else_none}

-- ---- uses of arguments

-- a use of the argument without a fault keeps the rows so
abbrev pub Fills : Rule → Type 0
Fills a = (again : Bool) (values : List Text) (rows : List Row) → use_fault again a values rows ≡ [] → AllFilled rows → AllFilled (used a values rows)

-- each argument that a look-up finds does
abbrev pub AllFill : List Rule → Type 0
AllFill c = (test : Rule → Bool) (a : Rule) → find test c ≡ Some a → Fills a

-- the use of an argument that was looked up
used_filled : (found : Option Rule) (again : Bool) (values : List Text) (rows : List Row) → ((a : Rule) → found ≡ Some a → Fills a)
    → option_map_or (λ a. use_fault again a values rows) found [] ≡ [] → AllFilled rows → AllFilled (used_by_id found values rows)
used_filled None again values rows fills e h = h
used_filled (Some a) again values rows fills e h = fills a refl again values rows e h

-- the use of what is pending
settled_filled : (c : List Rule) (again : Bool) (pending : Option (Text × List Text)) (rows : List Row) → AllFill c
    → option_map_or (λ p. option_map_or (λ a. use_fault again a p.1 rows) (arg_by_id c p.0) []) pending [] ≡ [] → AllFilled rows → AllFilled (settled_rows c pending rows)
settled_filled c again None rows fills e h = h
settled_filled c again (Some p) rows fills e h = used_filled (arg_by_id c p.0) again p.1 rows (λ a is. fills _ a is) e h

-- what is held, with the use of what is pending
pub settle_filled : (c : List Rule) (again : Bool) (h : Held) → AllFill c → settle_fault c again h ≡ [] → AllFilled h.rows → AllFilled (settled c h).rows
settle_filled c again h fills e full = settled_filled c again h.pending h.rows fills e full

-- the use of an argument, after what is pending
react_filled : (c : List Rule) (again : Bool) (a : Rule) (values : List Text) (h : Held) → AllFill c → Fills a → react_fault c again a values h ≡ []
    → AllFilled h.rows → AllFilled (reacted c a values h).rows
react_filled c again a values h fills fill e full =
    let both = or_else_none (settle_fault c again h) (use_fault again a values (settled c h).rows) e in
    fill again values (settled c h).rows both.1 (settle_filled c again h fills both.0 full)

-- an option, with the value that is attached to it or none yet
option_filled : (c : List Rule) (again : Bool) (a : Rule) (v : Option Text) (h : Held) → AllFill c → Fills a → option_fault c again a v h ≡ []
    → AllFilled h.rows → AllFilled (option_met c a v h).0.rows
option_filled c again a (Some v) h fills fill e full = react_filled c again a (v ∷ []) h fills fill e full
option_filled c again a None h fills fill e full = settle_filled c again h fills e full

-- of two branches, each keeps the rows so where it has no fault
branch_filled : (b : Bool) (x y : Held × Outcome) (k l : Kinds) → (k ≡ [] → AllFilled x.0.rows) → (l ≡ [] → AllFilled y.0.rows)
    → (if b then k else l) ≡ [] → AllFilled (if b then x else y).0.rows
branch_filled true x y k l p q e = p e
branch_filled false x y k l p q e = q e

-- a flag, which takes no value
flag_filled : (c : List Rule) (again : Bool) (a : Rule) (v : Option Text) (h : Held) → AllFill c → Fills a
    → (if is_some v then kind.TooManyValues ∷ [] else react_fault c again a [] h) ≡ [] → AllFilled h.rows → AllFilled (flag_met c a v h).0.rows
flag_filled c again a (Some v) h fills fill e full = full
flag_filled c again a None h fills fill e full = react_filled c again a [] h fills fill e full

-- ---- the words

-- a long flag or option
long_filled : (c : List Rule) (again : Bool) (found : Option Rule) (v : Option Text) (h : Held) → AllFill c → ((a : Rule) → found ≡ Some a → Fills a)
    → long_fault c again found v h ≡ [] → AllFilled h.rows → AllFilled (long_met c found v h).0.rows
long_filled c again None v h fills fill e full = full
long_filled c again (Some a) v h fills fill e full =
    branch_filled (takes_values a) (option_met c a v h) (flag_met c a v h) (option_fault c again a v h) _
    (λ k. option_filled c again a v h fills (fill a refl) k full)
    (λ k. flag_filled c again a v h fills (fill a refl) k full) e

-- one flag of a bundle, where the flags after it keep the rows so
short_filled : (c : List Rule) (again : Bool) (found : Option Rule) (rest : Text) (h : Held) (met : Held → Held × Outcome) (fault : Held → Kinds) → AllFill c
    → ((a : Rule) → found ≡ Some a → Fills a) → ((x : Held) → fault x ≡ [] → AllFilled x.rows → AllFilled (met x).0.rows)
    → short_fault c again found rest h fault ≡ [] → AllFilled h.rows → AllFilled (short_met c found rest h met).0.rows
short_filled c again None rest h met fault fills fill after e full = full
short_filled c again (Some a) rest h met fault fills fill after e full =
    branch_filled (takes_values a) (option_met c a (attached_value rest) h) (met (reacted c a [] h)) (option_fault c again a (attached_value rest) h) _
    (λ k. option_filled c again a (attached_value rest) h fills (fill a refl) k full)
    (λ k. let both = or_else_none (react_fault c again a [] h) (fault (reacted c a [] h)) k in
    after (reacted c a [] h) both.1 (react_filled c again a [] h fills (fill a refl) both.0 full)) e

-- a bundle of short flags
bundle_filled : (c : List Rule) (again : Bool) (k : ℕ) (flags : Text) (skip : ℕ) (so_far : Outcome) (h : Held) → AllFill c
    → flags_fault c again k flags skip h ≡ [] → AllFilled h.rows → AllFilled (bundle_met c k flags skip so_far h).0.rows
unfolding flags_fault bundle_met
bundle_filled c again zero flags skip so_far h fills e full = full
bundle_filled c again (suc k) flags skip so_far h fills e full =
    go (slice_get (chars flags) 0) skip (λ rest s o x. bundle_filled c again k rest s o x fills) e
  where
    go : (x : Option ℕ) (skip : ℕ)
        → ((rest : Text) (s : ℕ) (o : Outcome) (x : Held) → flags_fault c again k rest s x ≡ [] → AllFilled x.rows → AllFilled (bundle_met c k rest s o x).0.rows)
        → bundle_step_fault c again x flags skip h (flags_fault c again k) ≡ [] → AllFilled (bundle_step c x flags skip so_far h (bundle_met c k)).0.rows
    go None skip after e = full
    go (Some x) zero after e = short_filled c again (arg_by_short c x) _ h _ _ fills (λ a is. fills _ a is) (λ y. after _ 0 done y) e full
    go (Some x) (suc skip) after e = after _ skip so_far h e full

-- a word that is no flag
plain_filled : (c : List Rule) (waiting : Waiting) (word : Text) (h : Held) → AllFilled h.rows → AllFilled (plain_word c waiting word h).0.rows
plain_filled c idle word h full = full
plain_filled c positional word h full = full
plain_filled c (option id) word h full = go (arg_by_id c id)
  where
    go : (found : Option Rule) → AllFilled (option_word found id word h).0.rows
    go None = full
    go (Some a) = full

-- a word that was no flag after all
after_filled : (c : List Rule) (waiting : Waiting) (word : Text) (h : Held) (o : Outcome) → AllFilled h.rows → AllFilled (after_flag c waiting word h o).0.rows
after_filled c waiting word h done full = full
after_filled c waiting word h (waits id) full = full
after_filled c waiting word h plain full = plain_filled c waiting word h full
after_filled c waiting word h refused full = plain_filled c waiting word h full

-- a flag word, or one that only looks like it
other_filled : (c : List Rule) (again : Bool) (waiting : Waiting) (word : Text) (h : Held) (long : Option (Text × Option Text)) → AllFill c
    → flag_word_fault c again long word h ≡ [] → AllFilled h.rows → AllFilled (long_or_other c waiting word long h).0.rows
other_filled c again waiting word h (Some p) fills e full =
    after_filled c waiting word _ _ (long_filled c again (arg_by_long c p.0) p.1 h fills (λ a is. fills _ a is) e full)
other_filled c again waiting word h None fills e full = go (short_of word) e
  where
    go : (short : Option Text) → option_map_or (λ flags. bundle_fault c again flags h) short [] ≡ [] → AllFilled (short_or_plain c waiting word short h).0.rows
    go None e = plain_filled c waiting word h full
    go (Some flags) e = after_filled c waiting word _ _ (bundle_filled c again (length flags) flags h.skip plain (record h { skip = 0 }) fills e full)

-- a word, before it goes to a positional
met_filled : (s : Shape) (names : Names) (is_trailing : Bool) (waiting : Waiting) (position : ℕ) (word : Text) (h : Held) → AllFill s.rules
    → word_fault s names is_trailing waiting word h ≡ [] → AllFilled h.rows → AllFilled (word_met s.rules names is_trailing waiting position word h).0.rows
met_filled s names true waiting position word h fills e full = full
met_filled s names false waiting position word h fills e full = go (subcommand_met names waiting word) e
  where
    go : (found : Option Text) → other_fault s found word h ≡ [] → AllFilled (subcommand_or_other s.rules found waiting position word h).0.rows
    go (Some name) e = full
    go None e = stop (bytes_eq word (45 ∷ 45 ∷ [])) e
      where
        stop : (b : Bool) → (if b then [] else flag_word_fault s.rules s.args_override_self (long_of word) word h) ≡ []
            → AllFilled (if b then (h, trailing position) else long_or_other s.rules waiting word (long_of word) h).0.rows
        stop true e = full
        stop false e = other_filled s.rules s.args_override_self waiting word h (long_of word) fills e full

-- a word, when it goes to a positional
step_filled : (s : Shape) (w : Walk) (word : Text) (h : Held) (step : Step) → AllFill s.rules → step_fault s w.position h step ≡ []
    → AllFilled h.rows → AllFilled (after_step s.rules word w h step).held.rows
step_filled s w word h (next waiting) fills e full = full
step_filled s w word h (trailing position) fills e full = full
step_filled s w word h (subcommand name) fills e full = full
step_filled s w word h value fills e full = go (arg_by_index s.rules w.position) e
  where
    go : (found : Option Rule) → option_map_or (λ a. positional_fault s.rules s.args_override_self a h) found (stray_fault s) ≡ []
        → AllFilled (to_positional s.rules found word w h).held.rows
    go None e = full
    go (Some a) e = held (is_pending a h.pending && takes_several a) e
      where
        held : (b : Bool) → (if b then [] else settle_fault s.rules s.args_override_self h) ≡ [] → AllFilled (pushed a.id word (if b then h else settled s.rules h)).rows
        held true e = full
        held false e = settle_filled s.rules s.args_override_self h fills e full

-- the walk after one more word
turn_filled : (s : Shape) (names : Names) (w : Walk) (word : Text) → AllFill s.rules → turn_fault s names w word ≡ [] → AllFilled w.held.rows
    → AllFilled (walked s.rules names w word).held.rows
unfolding walked
turn_filled s names w word fills e full = go w.stopped e
  where
    met : Held × Step
    met = word_met s.rules names w.is_trailing w.waiting w.position word w.held

    go : (stopped : Option (Text × List Text))
        → (if is_some stopped then [] else or_else (word_fault s names w.is_trailing w.waiting word w.held) (step_fault s w.position met.0 met.1)) ≡ []
        → AllFilled (walked_from s.rules names stopped w word).held.rows
    go (Some p) e = full
    go None e =
        let both = or_else_none (word_fault s names w.is_trailing w.waiting word w.held) (step_fault s w.position met.0 met.1) e in
        step_filled s w word met.0 met.1 fills both.1 (met_filled s names w.is_trailing w.waiting w.position word w.held fills both.0 full)

-- the walk over all the words
pub walk_filled : (s : Shape) (names : Names) (w : Walk) (words : List Text) → AllFill s.rules → walk_fault s names w words ≡ [] → AllFilled w.held.rows
    → AllFilled (fold (walked s.rules names) w words).held.rows
unfolding walk_fault
walk_filled s names w [] fills e full = full
walk_filled s names w (word ∷ rest) fills e full =
    let both = or_else_none (turn_fault s names w word) (walk_fault s names (walked s.rules names w word) rest) e in
    walk_filled s names (walked s.rules names w word) rest fills both.1 (turn_filled s names w word fills both.0 full)
