-- `attaching::writing::write_attached` meets its contract: the bytes are copied into zeros, and then the three numbers are written.
use Rattle.encoding.specs.Writing.{with_bytes_after, with_count, with_span}
use Rattle.encoding.proofs.Places.{header_held}
use Rattle.attaching.specs.Attached.{joined, nodes}
use Rattle.attaching.proofs.BytesFitted.{rest, length_attached, joined_long}
use Rattle.attaching.proofs.Copied.{copied_there, long_there, root_there, written_all}
use Rattle.std.proofs.Common.{◌≡◌, ap, ◌∙◌, ◌≤◌, length, arith}
use Rattle.attaching.proofs.writing.write_attached.Goals as goal
use Rattle.attaching.proofs.writing.write_attached.Goals.{After-join, After-put_bytes_after, After-put_count}

pub count_at-base_nodes-requires : goal.count_at-base_nodes-requires
count_at-base_nodes-requires c = header_held c.args.base.bytes.now c.args.base.accepted.records

pub count_at-requires : goal.count_at-requires
count_at-requires c = header_held c.args.expansion.bytes.now c.args.expansion.accepted.records

pub join-requires : goal.join-requires
join-requires c = omega (arith, length_attached c.args.base.bytes.now c.args.expansion.bytes.now, c.requires.1)

pub overflow_sub-size : goal.overflow_sub-size
overflow_sub-size c = omega (
  arith,
  c.attached_size-size.ensures.0,
  length_attached c.args.base.bytes.now c.args.expansion.bytes.now,
  joined_long c.args.base.bytes.now c.args.expansion.bytes.now c.args.base.accepted c.args.expansion.accepted,
)

-- there is room for the bytes
room : (c : After-join) → length (joined c.args.base.bytes.now c.args.expansion.bytes.now) ≤ length c.args.table.now
room c = omega (arith, length_attached c.args.base.bytes.now c.args.expansion.bytes.now, c.requires.1)

-- what is written after the first three bytes
long : (c : After-put_bytes_after) → c.put_bytes_after.new.table ≡ with_bytes_after c.join.new.table (rest c.args.base.bytes.now c.args.expansion.bytes.now)
long c =
    c.put_bytes_after.ensures
    ∙ ap (with_bytes_after c.join.new.table)
    (omega (arith, c.attached_size-size.ensures.0, length_attached c.args.base.bytes.now c.args.expansion.bytes.now))

-- the count of both tables' nodes
counted : (c : After-put_count) → c.put_count.new.table ≡ with_count c.put_bytes_after.new.table (nodes c.args.base.bytes.now c.args.expansion.bytes.now)
counted c =
    c.put_count.ensures
    ∙ ap (with_count c.put_bytes_after.new.table) (omega (arith, c.count_at-base_nodes.ensures.0, c.count_at.ensures.0))

pub put_bytes_after-requires : goal.put_bytes_after-requires
put_bytes_after-requires c =
    copied_there _ _ c.args.base.accepted c.args.expansion.accepted _ (room (goal.at.put_bytes_after-requires c).After-join) _ _ c.requires.0 c.join.ensures

pub put_count-requires : goal.put_count-requires
put_count-requires c =
    let s = goal.at.put_count-requires c in
    long_there _ _ c.args.base.accepted c.args.expansion.accepted _ (room s.After-join) _ _ c.requires.0 c.join.ensures _ (long s.After-put_bytes_after)

pub put_span-requires : goal.put_span-requires
put_span-requires c =
    let s = goal.at.put_span-requires c in
    root_there _ _ c.args.base.accepted c.args.expansion.accepted _ (room s.After-join) _ _ c.requires.0 c.join.ensures _ (long s.After-put_bytes_after) _
    (counted s.After-put_count)

pub returns : goal.returns
returns c =
    let s = goal.at.returns c in
    written_all _ _ c.args.base.accepted c.args.expansion.accepted _ (room s.After-join) _ _ c.requires.0 c.join.ensures _ (long s.After-put_bytes_after) _
    (counted s.After-put_count) _
    (c.put_span.ensures ∙ ap (with_span c.put_count.new.table 0) (omega (arith, c.count_at-base_nodes.ensures.0, c.count_at.ensures.0)))
