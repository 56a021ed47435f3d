-- `encoding::layout::ranges_at` meets its contract: the range bytes of the fields passed so far are gathered.
use Rattle.std.proofs.Common.{◌^◌, ◌<◌, sym, subst, arith}
use Rattle.encoding.specs.Ranges.{ReadsBack}
use Rattle.encoding.proofs.RangesReadBack.{reads_back, none_gathered, room_for_two, one_more, all_gathered}
use Rattle.encoding.proofs.layout.ranges_at.Goals as goal
use Rattle.encoding.proofs.layout.ranges_at.Goals.{In-loop-field}

-- in the loop there is room for two bytes more
room : (c : In-loop-field) → c.loop-field.word < 2 ^ 48
room c =
    room_for_two c.args.table.now c.args.i c.loop-field.field c.loop-field.word (λ p. omega (arith, c.type_inv.table p)) (omega arith) c.loop-field.invariant

pub loop-field-init : goal.loop-field-init
loop-field-init c = none_gathered c.args.table.now c.args.i

pub overflow_mul-word : goal.overflow_mul-word
overflow_mul-word c = omega (arith, room (goal.at.overflow_mul-word c).In-loop-field)

pub overflow_add-word : goal.overflow_add-word
overflow_add-word c = omega (arith, room (goal.at.overflow_add-word c).In-loop-field)

pub overflow_mul-word-in-loop-field : goal.overflow_mul-word-in-loop-field
overflow_mul-word-in-loop-field c = omega (arith, room (goal.at.overflow_mul-word-in-loop-field c).In-loop-field)

pub overflow_add-word-in-loop-field : goal.overflow_add-word-in-loop-field
overflow_add-word-in-loop-field c = omega (arith, room (goal.at.overflow_add-word-in-loop-field c).In-loop-field)

pub loop-field-preserved : goal.loop-field-preserved
loop-field-preserved c =
    one_more c.args.table.now c.args.i c.loop-field.field c.loop-field.word c.from.result c.from-in-loop-field.result _ c.loop-field.invariant
    (omega arith) (omega arith) (omega arith)

pub returns : goal.returns
returns c =
    let table = c.args.table.now in
    let e = all_gathered table c.args.i c.loop-field.field c.loop-field.word (omega arith) c.loop-field.invariant in
    record {
      value = e;
      reads_back = subst (λ w. ReadsBack w table c.args.i) (sym e) (reads_back table c.args.i (λ p. omega (arith, c.type_inv.table p)));
    }
