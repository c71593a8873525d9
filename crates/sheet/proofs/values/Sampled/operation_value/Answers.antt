use Rattle.std.proofs.Common.{length, sym, ap, ◌∙◌}
use Rattle.std.proofs.lemmas.Bool.{and_parts}
use Rattle.widths.specs.Kinds.{valid, sides_of}
use Rattle.graphs.specs.Graphs.{good_operation}
use Rattle.graphs.proofs.Valued.{port_small, adder_ports, multiplier_ports}
use Rattle.sheet.specs.Samples.{input_count}
use Rattle.sheet.proofs.values.Sampled.operation_value.Goals as goal

pub added-requires : goal.added-requires
added-requires c =
    let p = c.in-Add.p in
    let good = ap (good_operation (input_count c.args.self.now) (length c.args.values.now)) (sym c.in-Add.is) ∙ c.requires in
    let w = adder_ports p (and_parts (valid 0 (sides_of p 0)) _ good).0 in
    record {
      a_small = port_small c.operand_value-x.result _ _ p 39 (record { sfits = c.operand_value-x.type_inv }) c.operand_value-x.ensures w.0 w.1;
      b_small = port_small c.operand_value-y.result _ _ p 39 (record { sfits = c.operand_value-y.type_inv }) c.operand_value-y.ensures w.0 w.1;
    }

pub multiplied-requires : goal.multiplied-requires
multiplied-requires c =
    let p = c.in-Multiply.p in
    let q = c.in-Multiply.q in
    let good = ap (good_operation (input_count c.args.self.now) (length c.args.values.now)) (sym c.in-Multiply.is) ∙ c.requires in
    let w = multiplier_ports p q (and_parts (valid 1 (sides_of p q)) _ good).0 in
    record {
      a_small = port_small c.operand_value-x-in-Multiply.result _ _ p 39 (record { sfits = c.operand_value-x-in-Multiply.type_inv }) c.operand_value-x-in-Multiply.ensures w.0.0 w.0.1;
      b_small = port_small c.operand_value-y-in-Multiply.result _ _ q 23 (record { sfits = c.operand_value-y-in-Multiply.type_inv }) c.operand_value-y-in-Multiply.ensures w.1.0 w.1.1;
    }
