-- Every well-formed graph is read back from its writing: from the end of the bytes to their front, each command is taken and leaves the rest to read.
use Rattle.std.proofs.Common.{◌≡◌, ℕ, ◌+◌, ◌-◌, ◌<◌, ◌≤◌, Bool, true, false, not, leb, List, [], ◌∷◌, ◌++◌, length, get_or, Some, Ok, sym, refl, ap, ◌∙◌, subst, ap₂, append_assoc, arith}
use Rattle.std.proofs.lemmas.List.{append-nil, get_or_at, length-append}
use Rattle.std.proofs.lemmas.Bool.{and_parts, and_from, lt-ltb, le-leb, ne_eqb, not_from_false}
use Rattle.std.specs.List.{flat_map}
use Rattle.widths.specs.Kinds.{valid, sides_of}
use Rattle.graphs.specs.declared.Operand.{Operand}
use Rattle.graphs.specs.declared.Operation.{Operation}
use Rattle.graphs.specs.declared.Operation.TheVariants.{Add, Multiply}
use Rattle.graphs.specs.declared.Feed.{Feed}
use Rattle.graphs.specs.declared.Command.{Command}
use Rattle.graphs.specs.declared.Command.TheVariants as command
use Rattle.graphs.specs.Graphs.{Graph, WellFormed, good_operation, good_operand, is_named, no_operation}
use Rattle.graphs.specs.Scripts.{script, next}
use Rattle.graphs.specs.Commands.{sheet_format, source_of, operand_of}
use Rattle.graphs.specs.Reading.{Sofar, nothing_read, is_empty, feed_range, after, continue, judge, read}
use Rattle.graphs.specs.Writing.{source_byte, input_bytes, operation_bytes, output_bytes, write}
use Rattle.graphs.proofs.Scripts.{begun_whole}
use Rattle.graphs.proofs.Taken.{Passes, no_cause_since, command_bytes, byte_range, source_back}

-- from the state d on, whatever the position, the bytes are read as G
Reads : Sofar → List ℕ → Graph → Type 0
Reads d bs G = (at : ℕ) → judge d at (script sheet_format 0 bs) ≡ Ok G

-- reading back: the bytes of a command before anything are that command and then the rest
read_back : (c : Command) (bs : List ℕ) → script sheet_format 0 (command_bytes c ++ bs) ≡ next c (length (command_bytes c)) (script sheet_format 0 bs)
unfolding script
read_back (command.Steps n) bs = begun_whole sheet_format 0x10 (n ∷ bs) 1 (Some 1) (λ k. script sheet_format k (n ∷ bs)) refl (omega arith)
read_back (command.Input w) bs = begun_whole sheet_format 0x11 (w ∷ bs) 1 (Some 1) (λ k. script sheet_format k (w ∷ bs)) refl (omega arith)
read_back (command.Add p a b) bs = begun_whole sheet_format 0x12 (p ∷ a.source ∷ a.drop ∷ b.source ∷ b.drop ∷ bs) 5 (Some 5) (λ k. script sheet_format k (p ∷ a.source ∷ a.drop ∷ b.source ∷ b.drop ∷ bs)) refl (omega arith)
read_back (command.Multiply p q a b) bs = begun_whole sheet_format 0x13 (p ∷ q ∷ a.source ∷ a.drop ∷ b.source ∷ b.drop ∷ bs) 6 (Some 6) (λ k. script sheet_format k (p ∷ q ∷ a.source ∷ a.drop ∷ b.source ∷ b.drop ∷ bs)) refl (omega arith)
read_back (command.Output s) bs = begun_whole sheet_format 0x14 (s ∷ bs) 1 (Some 1) (λ k. script sheet_format k (s ∷ bs)) refl (omega arith)
read_back command.End bs = begun_whole sheet_format 0x1F bs 0 (Some 0) (λ k. script sheet_format k bs) refl (omega arith)

read_one : (d : Sofar) (c : Command) (bs : List ℕ) (G : Graph) → Passes d c → Reads (after d c) bs G → Reads d (command_bytes c ++ bs) G
unfolding judge Reads
read_one d c bs G h later at =
    ap (judge d at) (read_back c bs)
    ∙ ap (λ o. continue o (judge (after d c) (at + length (command_bytes c)) (script sheet_format 0 bs))) (no_cause_since d at c h)
    ∙ later (at + length (command_bytes c))

filled : {A : Type 0} (xs : List A) → 1 ≤ length xs → not (is_empty xs) ≡ true
filled xs h = not_from_false (is_empty xs) (ne_eqb (length xs) 0 (λ e. omega arith))

abbrev feed_of : Operand → Feed
feed_of x = record { source = source_byte x.source; drop = x.drop }

abbrev command_for : Operation → Command
command_for (Add p a b) = command.Add p (feed_of a) (feed_of b)
command_for (Multiply p q a b) = command.Multiply p q (feed_of a) (feed_of b)

operand_back : (ins ops : ℕ) (x : Operand) → ins ≤ 16 → good_operand ins ops x ≡ true → operand_of (feed_of x) ≡ x
operand_back ins ops x h g = ap (λ s. record { source = s; drop = x.drop }) (source_back ins ops x.source h (and_parts (leb x.drop 63) _ g).1)

feed_back : (ins ops : ℕ) (x : Operand) → ins ≤ 16 → ops ≤ 64 → good_operand ins ops x ≡ true → feed_range (feed_of x) ≡ true
feed_back ins ops x h k g =
    let p = and_parts (leb x.drop 63) _ g in
    and_from _ (leb x.drop 63) (byte_range ins ops x.source h k p.1) p.0

named_back : (ins ops : ℕ) (x : Operand) → ins ≤ 16 → good_operand ins ops x ≡ true → is_named ins ops (source_of (source_byte x.source)) ≡ true
named_back ins ops x h g =
    let p = and_parts (leb x.drop 63) _ g in
    ap (is_named ins ops) (source_back ins ops x.source h p.1) ∙ p.1

module _ (G : Graph) (wf : WellFormed G) where
  abbrev state : List ℕ → List Operation → List ℕ → Bool → Sofar
  state ins ops outs ended = record { limit = Some G.limit; inputs = ins; operations = ops; outputs = outs; ended = ended }

  end_read : Reads (state G.inputs G.operations G.outputs false) (0x1F ∷ []) G
  end_read =
      read_one (state G.inputs G.operations G.outputs false) command.End [] G
      (record {
        order = and_from _ _ (filled G.operations wf.operation_count.0) (filled G.outputs wf.output_count.0);
        room = refl;
        range = refl;
        named = refl;
      })
      (unfold Reads judge script in λ at. refl)

  outputs_read : (done todo : List ℕ) → done ++ todo ≡ G.outputs → Reads (state G.inputs G.operations done false) (flat_map output_bytes todo ++ (0x1F ∷ [])) G
  outputs_read done [] e = subst (λ x. Reads (state G.inputs G.operations x false) (0x1F ∷ []) G) (sym (sym (append-nil done) ∙ e)) end_read
  outputs_read done (o ∷ todo) e =
      let d = state G.inputs G.operations done false in
      let l = length-append done (o ∷ todo) in
      let n = ap length e in
      let there : length done < length G.outputs = omega arith in
      let is : get_or G.outputs (length done) 0 ≡ o = ap (λ x. get_or x (length done) 0) (sym e) ∙ get_or_at done o todo 0 (length done) refl in
      let small : o < length G.operations = subst (λ x. x < length G.operations) is (wf.output (length done) there) in
      let few = wf.operation_count in
      let most = wf.output_count in
      let back : (64 + o) - 64 ≡ o = omega arith in
      let later = outputs_read (done ++ o ∷ []) todo (append_assoc done (o ∷ []) todo ∙ e) in
      read_one d (command.Output (64 + o)) (flat_map output_bytes todo ++ (0x1F ∷ [])) G
      (record {
        order = filled G.operations few.0;
        room = lt-ltb (length done) 16 (omega arith);
        range = and_from (leb 64 (64 + o)) (leb (64 + o) 127) (le-leb 64 (64 + o) (omega arith)) (le-leb (64 + o) 127 (omega arith));
        named = lt-ltb ((64 + o) - 64) (length G.operations) (omega arith);
      })
      (subst (λ x. Reads (state G.inputs G.operations (done ++ x ∷ []) false) (flat_map output_bytes todo ++ (0x1F ∷ [])) G) (sym back) later)

  abbrev outputs_tail : List ℕ
  outputs_tail = flat_map output_bytes G.outputs ++ (0x1F ∷ [])

  -- an operation of the graph, behind those that were read
  module _ (done : List Operation) (few : length done < 64) where
    abbrev before : Sofar
    before = state G.inputs done [] false

    operation_passes : (x : Operation) → good_operation (length G.inputs) (length done) x ≡ true → Passes before (command_for x)
    operation_passes (Add p a b) g =
        let v = and_parts (valid 0 (sides_of p 0)) _ g in
        let h = and_parts (good_operand (length G.inputs) (length done) a) (good_operand (length G.inputs) (length done) b) v.1 in
        let i = wf.input_count in
        let o : length done ≤ 64 = omega arith in
        record {
          order = refl;
          room = lt-ltb (length done) 64 few;
          range = and_from (valid 0 (sides_of p 0)) _ v.0 (and_from _ _ (feed_back (length G.inputs) (length done) a i o h.0) (feed_back (length G.inputs) (length done) b i o h.1));
          named = and_from _ _ (named_back (length G.inputs) (length done) a i h.0) (named_back (length G.inputs) (length done) b i h.1);
        }
    operation_passes (Multiply p q a b) g =
        let v = and_parts (valid 1 (sides_of p q)) _ g in
        let h = and_parts (good_operand (length G.inputs) (length done) a) (good_operand (length G.inputs) (length done) b) v.1 in
        let i = wf.input_count in
        let o : length done ≤ 64 = omega arith in
        record {
          order = refl;
          room = lt-ltb (length done) 64 few;
          range = and_from (valid 1 (sides_of p q)) _ v.0 (and_from _ _ (feed_back (length G.inputs) (length done) a i o h.0) (feed_back (length G.inputs) (length done) b i o h.1));
          named = and_from _ _ (named_back (length G.inputs) (length done) a i h.0) (named_back (length G.inputs) (length done) b i h.1);
        }

    operation_after : (x : Operation) → good_operation (length G.inputs) (length done) x ≡ true → after before (command_for x) ≡ state G.inputs (done ++ x ∷ []) [] false
    operation_after (Add p a b) g =
        let v = and_parts (valid 0 (sides_of p 0)) _ g in
        let h = and_parts (good_operand (length G.inputs) (length done) a) (good_operand (length G.inputs) (length done) b) v.1 in
        ap₂ (λ u w. state G.inputs (done ++ Add p u w ∷ []) [] false) (operand_back (length G.inputs) (length done) a wf.input_count h.0) (operand_back (length G.inputs) (length done) b wf.input_count h.1)
    operation_after (Multiply p q a b) g =
        let v = and_parts (valid 1 (sides_of p q)) _ g in
        let h = and_parts (good_operand (length G.inputs) (length done) a) (good_operand (length G.inputs) (length done) b) v.1 in
        ap₂ (λ u w. state G.inputs (done ++ Multiply p q u w ∷ []) [] false) (operand_back (length G.inputs) (length done) a wf.input_count h.0) (operand_back (length G.inputs) (length done) b wf.input_count h.1)

  same_bytes : (x : Operation) → command_bytes (command_for x) ≡ operation_bytes x
  same_bytes (Add p a b) = refl
  same_bytes (Multiply p q a b) = refl

  operations_read : (done todo : List Operation) → done ++ todo ≡ G.operations → Reads (state G.inputs done [] false) (flat_map operation_bytes todo ++ outputs_tail) G
  operations_read done [] e = subst (λ x. Reads (state G.inputs x [] false) outputs_tail G) (sym (sym (append-nil done) ∙ e)) (outputs_read [] G.outputs refl)
  operations_read done (x ∷ todo) e =
      let l = length-append done (x ∷ todo) in
      let n = ap length e in
      let there : length done < length G.operations = omega arith in
      let most = wf.operation_count in
      let few : length done < 64 = omega arith in
      let is : get_or G.operations (length done) no_operation ≡ x = ap (λ y. get_or y (length done) no_operation) (sym e) ∙ get_or_at done x todo no_operation (length done) refl in
      let good : good_operation (length G.inputs) (length done) x ≡ true = ap (good_operation (length G.inputs) (length done)) (sym is) ∙ wf.operation (length done) there in
      let later = operations_read (done ++ x ∷ []) todo (append_assoc done (x ∷ []) todo ∙ e) in
      let one = read_one (before done few) (command_for x) (flat_map operation_bytes todo ++ outputs_tail) G (operation_passes done few x good)
      (subst (λ s. Reads s (flat_map operation_bytes todo ++ outputs_tail) G) (sym (operation_after done few x good)) later) in
      subst (λ bs. Reads (before done few) bs G) (ap (λ y. y ++ (flat_map operation_bytes todo ++ outputs_tail)) (same_bytes x) ∙ sym (append_assoc (operation_bytes x) (flat_map operation_bytes todo) outputs_tail)) one

  abbrev operations_tail : List ℕ
  operations_tail = flat_map operation_bytes G.operations ++ outputs_tail

  inputs_read : (done todo : List ℕ) → done ++ todo ≡ G.inputs → Reads (state done [] [] false) (flat_map input_bytes todo ++ operations_tail) G
  inputs_read done [] e = subst (λ x. Reads (state x [] [] false) operations_tail G) (sym (sym (append-nil done) ∙ e)) (operations_read [] G.operations refl)
  inputs_read done (w ∷ todo) e =
      let l = length-append done (w ∷ todo) in
      let n = ap length e in
      let there : length done < length G.inputs = omega arith in
      let most = wf.input_count in
      let is : get_or G.inputs (length done) 0 ≡ w = ap (λ x. get_or x (length done) 0) (sym e) ∙ get_or_at done w todo 0 (length done) refl in
      let wide = subst (λ x. (1 ≤ x) × (x ≤ 40)) is (wf.input (length done) there) in
      read_one (state done [] [] false) (command.Input w) (flat_map input_bytes todo ++ operations_tail) G
      (record {
        order = refl;
        room = lt-ltb (length done) 16 (omega arith);
        range = and_from (leb 1 w) (leb w 40) (le-leb 1 w wide.0) (le-leb w 40 wide.1);
        named = refl;
      })
      (inputs_read (done ++ w ∷ []) todo (append_assoc done (w ∷ []) todo ∙ e))

  steps_read : Reads nothing_read (write G) G
  steps_read =
      read_one nothing_read (command.Steps G.limit) (flat_map input_bytes G.inputs ++ operations_tail) G
      (record {
        order = refl;
        room = refl;
        range = and_from (leb 1 G.limit) (leb G.limit 64) (le-leb 1 G.limit wf.limit.0) (le-leb G.limit 64 wf.limit.1);
        named = refl;
      })
      (inputs_read [] G.inputs refl)

pub every : (bs : List ℕ) (G : Graph) → WellFormed G → bs ≡ write G → read bs ≡ Ok G
unfolding read Reads
every bs G wf e = ap read e ∙ steps_read G wf 0
