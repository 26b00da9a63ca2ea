use Rattle.std.proofs.Common.{◌≡◌, ◌≤◌, ◌+◌, ◌-◌, ◌*◌, ℕ, Bool, List, min, lit<, length, vec_len, vec_capacity, sym, ◌∙◌, ap, arith}
use Rattle.std.proofs.lemmas.Bool.Decides.{nat_tests}
use Rattle.std.proofs.lemmas.Grind.{div_ceil_times}
use Rattle.tp_posindex.specs.Laid.{blocks_in_order, room_of}
use Rattle.tp_posindex.proofs.Laying.{length-blocks_in_order}
use Rattle.tp_posindex.proofs.Rooms.{least_three, three_above, room_along, room_grows, room_enough, room_within}
use Rattle.tp_posindex.proofs.blocks.Blocks.reserve.Goals as goal

pub returns-in_err-reserve_blocks-clause-room : goal.returns-in_err-reserve_blocks-clause-room
returns-in_err-reserve_blocks-clause-room c =
    let s = c.self.inside in
    let new = c.reserve_blocks.new.self in
    let numbers_room : 4294967295 - vec_len s.deleted ≤ 4294967295 - vec_len c.reserve-2.new.self = omega (arith, c.reserve-2.ensures.len) in
    let home_room : vec_capacity s.home - vec_len s.home ≤ vec_capacity c.reserve.new.self - vec_len c.reserve.new.self = omega (arith, c.reserve.ensures.capacity, c.reserve.ensures.len) in
    let deleted_room : vec_capacity s.deleted - vec_len s.deleted ≤ vec_capacity c.reserve-2.new.self - vec_len c.reserve-2.new.self = omega (arith, c.reserve-2.ensures.capacity, c.reserve-2.ensures.len) in
    let blocks : length new.blocks ≡ length (blocks_in_order s.pool.items s.order.items) = ap (λ (z : List (List ℕ)). length z) c.reserve_blocks.ensures.blocks in
    let numbers : length new.flags ≡ length s.deleted.items = ap (λ (z : List Bool). length z) (c.reserve_blocks.ensures.flags ∙ c.reserve-2.ensures.items) in
    let slots = least_three _ _ _ _ _ _ numbers_room home_room deleted_room in
    room_along _ _ _ (ap room_of c.self.view_is) (room_grows _ _ _ _ _ _ _ _ blocks numbers c.reserve_blocks.ensures.spare (room_within _ _ _ slots c.reserve_blocks.ensures.slots))

pub returns-clause-room : goal.returns-clause-room
returns-clause-room c =
    let s = c.self.inside in
    let new = c.reserve_blocks.new.self in
    let numbers_room : 4294967295 - vec_len s.deleted ≤ 4294967295 - vec_len c.reserve-2.new.self = omega (arith, c.reserve-2.ensures.len) in
    let home_room : vec_capacity s.home - vec_len s.home ≤ vec_capacity c.reserve.new.self - vec_len c.reserve.new.self = omega (arith, c.reserve.ensures.capacity, c.reserve.ensures.len) in
    let deleted_room : vec_capacity s.deleted - vec_len s.deleted ≤ vec_capacity c.reserve-2.new.self - vec_len c.reserve-2.new.self = omega (arith, c.reserve-2.ensures.capacity, c.reserve-2.ensures.len) in
    let blocks : length new.blocks ≡ length (blocks_in_order s.pool.items s.order.items) = ap (λ (z : List (List ℕ)). length z) c.reserve_blocks.ensures.blocks in
    let numbers : length new.flags ≡ length s.deleted.items = ap (λ (z : List Bool). length z) (c.reserve_blocks.ensures.flags ∙ c.reserve-2.ensures.items) in
    let slots = least_three _ _ _ _ _ _ numbers_room home_room deleted_room in
    room_along _ _ _ (ap room_of c.self.view_is) (room_grows _ _ _ _ _ _ _ _ blocks numbers c.reserve_blocks.ensures.spare (room_within _ _ _ slots c.reserve_blocks.ensures.slots))

pub returns-clause-ok : goal.returns-clause-ok
returns-clause-ok c =
    let s = c.self.inside in
    let opened = c.min-opened.result in
    let new = c.reserve_blocks.new.self in
    let numbers_room : c.args.n ≤ 4294967295 - vec_len c.reserve-2.new.self = omega (arith, c.reserve-2.ensures.len, c.if-n-saturating_sub.false, c.saturating_sub.ensures) in
    let home_room : c.args.n ≤ vec_capacity c.reserve.new.self - vec_len c.reserve.new.self = omega (arith, c.in_ok-reserve.ensures.ok) in
    let deleted_room : c.args.n ≤ vec_capacity c.reserve-2.new.self - vec_len c.reserve-2.new.self = omega (arith, c.in_ok-reserve-2.ensures.ok) in
    let blocks : length new.blocks ≡ length s.order.items = ap (λ (z : List (List ℕ)). length z) c.reserve_blocks.ensures.blocks ∙ length-blocks_in_order s.pool.items s.order.items in
    let numbers : length new.flags ≡ length s.deleted.items = ap (λ (z : List Bool). length z) (c.reserve_blocks.ensures.flags ∙ c.reserve-2.ensures.items) in
    let slots = three_above c.args.n _ _ _ numbers_room home_room deleted_room in
    let each = c.div_ceil.result in
    let times = div_ceil_times (c.len-numbers.result + c.args.n) 64 (lit< tt) in
    let enough : length new.flags + c.args.n ≤ 64 * each = omega (arith, times.0, c.div_ceil.ensures, c.len-numbers.ensures, numbers) in
    let fewer : opened ≡ min c.args.n c.saturating_sub-2.result = grind (arith, nat_tests) in
    let at_least : opened ≡ min c.args.n (each - length new.blocks) = fewer ∙ ap (min c.args.n) (c.saturating_sub-2.ensures ∙ ap (λ n. each - n) (c.len-blocks.ensures ∙ (let e : vec_len s.order ≡ length s.order.items = omega arith in e) ∙ sym blocks)) in
    room_enough c.args.n _ _ each _ _ (room_along _ _ _ at_least c.in_ok-reserve_blocks.ensures.ok) enough (room_within _ _ _ slots c.reserve_blocks.ensures.slots)
