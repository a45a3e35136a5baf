-- `endian::read` meets its contract, by the laws of Widths.
use Rattle.std.proofs.Common.{◌≡◌, ℕ, ap, sym, ◌∙◌, arith}
use Rattle.endian.specs.BigEndian.{read_at}
use Rattle.endian.proofs.Widths.{part_length, read_room, read_more, read_none}
use Rattle.endian.proofs.read.Goals as goal

pub loop-b-init : goal.loop-b-init
loop-b-init g c = sym (read_none c.args.s.now c.args.at)

pub overflow_mul-v : goal.overflow_mul-v
overflow_mul-v g c =
    let room = read_room c.loop-b.b-index c.args.s.now c.args.at (λ j. (c.type_inv.s j).fits) in
    let whole = part_length g.row.N c.args.at c.args.s.now c.requires.inside in
    record { fits = omega (arith, room (omega arith)) }

pub overflow_add-v : goal.overflow_add-v
overflow_add-v g c =
    let room = read_room c.loop-b.b-index c.args.s.now c.args.at (λ j. (c.type_inv.s j).fits) in
    let whole = part_length g.row.N c.args.at c.args.s.now c.requires.inside in
    record { fits = omega (arith, room (omega arith)) }

pub loop-b-preserved : goal.loop-b-preserved
loop-b-preserved g c =
    let more = read_more c.loop-b.b-index g.row.N c.args.at c.args.s.now c.loop-b-test.true c.requires.inside in
    omega (arith, more, c.from.ensures, c.loop-b.invariant)

pub returns : goal.returns
returns g c =
    let whole = part_length g.row.N c.args.at c.args.s.now c.requires.inside in
    let all : c.loop-b.b-index ≡ g.row.N = omega arith in
    c.loop-b.invariant ∙ ap (λ (n : ℕ). read_at n c.args.s.now c.args.at) all
