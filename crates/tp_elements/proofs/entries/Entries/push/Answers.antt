use Rattle.std.proofs.Common.{◌≡◌, ◌<◌, length, refl, ap, subst, arith, IfSome}
use Rattle.tp_elements.specs.declared.entry.Entry.{Entry}
use Rattle.tp_elements.specs.Came.{Came}
use Rattle.tp_elements.specs.Indexed.{actor_of_element}
use Rattle.tp_elements.proofs.Entering.{pushed_sibling, pushed_first}
use Rattle.tp_elements.proofs.entries.Entries.push.Goals as goal

pub returns-in-Some-clause-items : goal.returns-in-Some-clause-items
returns-in-Some-clause-items c =
    let s = c.self.inside in
    let room = ap (λ (v : Came). v.room) c.self.view_is in
    let most : length s.columns.items < 4294967295 = omega (arith, room, c.requires.room) in
    let x : Entry = record { counter = c.args.id.counter; author = c.author-author.result; after = c.args.after; ch = c.args.ch } in
    let sibling = subst (λ o. IfSome o (λ k. (k < length c.args.self.now.items) × (actor_of_element c.args.self.now.items k ≡ c.args.id.actor))) c.in-Some.is c.requires.sibling in
    pushed_sibling s.columns.items c.push.new.self.items s.actors.items c.args.self.now.items x c.args.id c.in-Some.number c.self.invariant (ap (λ (v : Came). v.items) c.self.view_is) c.requires.after refl sibling c.author-author.ensures most c.push.ensures.items

pub returns-in-None-clause-items : goal.returns-in-None-clause-items
returns-in-None-clause-items c =
    let s = c.self.inside in
    let room = ap (λ (v : Came). v.room) c.self.view_is in
    let most : length s.columns.items < 4294967295 = omega (arith, room, c.requires.room) in
    let x : Entry = record { counter = c.args.id.counter; author = c.add-author.result; after = c.args.after; ch = c.args.ch } in
    pushed_first s.columns.items c.push-in-None.new.self.items s.actors.items c.add-author.new.actors.items c.args.self.now.items x c.args.id c.self.invariant (ap (λ (v : Came). v.items) c.self.view_is) c.requires.after refl c.add-author.ensures.index most c.push-in-None.ensures.items c.add-author.ensures.actors
