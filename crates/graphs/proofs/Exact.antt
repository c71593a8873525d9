-- What is read is well-formed and was written so: both hold of what was read so far, command by command, with the bytes so far as the writing.
use Rattle.std.proofs.Common.{◌≡◌, ℕ, zero, suc, ◌+◌, ◌-◌, ◌<◌, ◌≤◌, Bool, true, false, cond, not, ltb, leb, List, [], ◌∷◌, ◌++◌, length, get_or, drop, is_some, Some, None, Ok, Err, Option, unwrap_or, sym, refl, ap, ◌∙◌, subst, ap₂, inl, inr, append_assoc, arith}
use Rattle.std.proofs.lemmas.List.{append-nil, flat_map_more, get_or_append_left, get_or_push, length_push, nil_from_length}
use Rattle.std.proofs.lemmas.Bool.{cases_lt, eqb-true, eqb-false, not-true, leb-true, ltb-true, and_parts, and_from}
use Rattle.std.specs.List.{flat_map}
use Rattle.faults.specs.declared.Fault.{Fault}
use Rattle.faults.specs.declared.Fault.TheVariants.{CutShort}
use Rattle.widths.specs.Kinds.{valid, sides_of}
use Rattle.graphs.specs.declared.Operation.{Operation}
use Rattle.graphs.specs.declared.Operation.TheVariants.{Add, Multiply}
use Rattle.graphs.specs.declared.Feed.{Feed}
use Rattle.graphs.specs.declared.Command.{Command}
use Rattle.graphs.specs.declared.Command.TheVariants as command
use Rattle.graphs.specs.Graphs.{Graph, WellFormed, good_operation, good_operand, is_named, no_operation}
use Rattle.graphs.specs.Scripts.{script, begun}
use Rattle.graphs.specs.Commands.{operands, command_of, sheet_format, source_of, source_range, operand_of}
use Rattle.graphs.specs.Reading.{Sofar, nothing_read, is_empty, feed_range, cause, after, whole_graph, continue, judge, read}
use Rattle.graphs.specs.Writing.{input_bytes, operation_bytes, output_bytes, write}
use Rattle.graphs.proofs.Scripts.{begun_short, begun_whole}
use Rattle.graphs.proofs.Taken.{Passes, passes, command_bytes, byte_source, decoded}

-- what was read so far is the front of a well-formed graph
pub record Good (d : Sofar) : Type 0 where
  pub first : d.limit ≡ None → (d.inputs ≡ []) × (d.operations ≡ []) × (d.outputs ≡ [])
  pub limit : (n : ℕ) → d.limit ≡ Some n → (1 ≤ n) × (n ≤ 64)
  pub input_count : length d.inputs ≤ 16
  pub input : (i : ℕ) → i < length d.inputs → (1 ≤ get_or d.inputs i 0) × (get_or d.inputs i 0 ≤ 40)
  pub operation_count : length d.operations ≤ 64
  pub operation : (o : ℕ) → o < length d.operations → good_operation (length d.inputs) o (get_or d.operations o no_operation) ≡ true
  pub output_count : length d.outputs ≤ 16
  pub output : (k : ℕ) → k < length d.outputs → get_or d.outputs k 0 < length d.operations
  pub ended : d.ended ≡ true → (is_some d.limit ≡ true) × (1 ≤ length d.operations) × (1 ≤ length d.outputs)

good_nothing : Good nothing_read
good_nothing = record {
  first = λ _. (refl, refl, refl);
  limit = λ n e. (let z : ◌≡◌ {A = ℕ} 0 1 = cc in absurd (omega arith));
  input_count = omega arith;
  input = λ i h. absurd (omega arith);
  operation_count = omega arith;
  operation = λ o h. absurd (omega arith);
  output_count = omega arith;
  output = λ k h. absurd (omega arith);
  ended = λ e. (let z : ◌≡◌ {A = ℕ} 0 1 = cc in absurd (omega arith));
}

-- one element more at the end
push_each : {A : Type 0} (P : ℕ → A → Type 0) (xs : List A) (x z : A) → ((i : ℕ) → i < length xs → P i (get_or xs i z)) → P (length xs) x → (i : ℕ) → i < length (xs ++ x ∷ []) → P i (get_or (xs ++ x ∷ []) i z)
push_each P xs x z all here i h =
    elim (cases_lt i (length xs)) [
      | inl l ↦ subst (P i) (sym (get_or_append_left xs (x ∷ []) z i l)) (all i l)
      | inr l ↦
          (let m = length_push xs x in
          let e : length xs ≡ i = omega arith in
          subst (P i) (sym (get_or_push xs x z i e)) (subst (λ j. P j x) e here))
    ]

none_of : (o : Option ℕ) → not (is_some o) ≡ true → o ≡ None
none_of None h = refl
none_of (Some n) h = let z : ◌≡◌ {A = ℕ} 0 1 = cc in absurd (omega arith)

not_none : (o : Option ℕ) → is_some o ≡ true → o ≡ None → ⊥
not_none None h e = let z : ◌≡◌ {A = ℕ} 0 1 = cc in omega arith
not_none (Some n) h e = let z : ◌≡◌ {A = ℕ} 0 1 = cc in omega arith

nil : {A : Type 0} (xs : List A) → is_empty xs ≡ true → xs ≡ []
nil xs h = nil_from_length xs (eqb-true (length xs) 0 h)

some : {A : Type 0} (xs : List A) → not (is_empty xs) ≡ true → 1 ≤ length xs
some xs h = let n = eqb-false (length xs) 0 (not-true (is_empty xs) h) in omega arith

good_feed : (ins ops : ℕ) (x : Feed) → feed_range x ≡ true → is_named ins ops (source_of x.source) ≡ true → good_operand ins ops (operand_of x) ≡ true
good_feed ins ops x r n = and_from (leb x.drop 63) _ (and_parts (source_range x.source) (leb x.drop 63) r).1 n

module _ (d : Sofar) (g : Good d) where
  abbrev ins : ℕ
  ins = length d.inputs

  abbrev ops : ℕ
  ops = length d.operations

  good_steps : (n : ℕ) → Passes d (command.Steps n) → Good (after d (command.Steps n))
  good_steps n h = record {
    first = λ e. (let z : ◌≡◌ {A = ℕ} 0 1 = cc in absurd (omega arith));
    limit = λ m e. (let i : n ≡ m = cc in let r = and_parts (leb 1 n) (leb n 64) h.range in subst (λ x. (1 ≤ x) × (x ≤ 64)) i (leb-true 1 n r.0, leb-true n 64 r.1));
    input_count = g.input_count;
    input = g.input;
    operation_count = g.operation_count;
    operation = g.operation;
    output_count = g.output_count;
    output = g.output;
    ended = λ e. (refl, (g.ended e).1, (g.ended e).2);
  }

  good_input : (w : ℕ) → Passes d (command.Input w) → Good (after d (command.Input w))
  good_input w h =
      let o1 = and_parts (not d.ended) _ h.order in
      let o2 = and_parts (is_some d.limit) _ o1.1 in
      let o3 = and_parts (is_empty d.operations) (is_empty d.outputs) o2.1 in
      let r = and_parts (leb 1 w) (leb w 40) h.range in
      let m = ltb-true ins 16 h.room in
      let none : ops ≡ 0 = eqb-true ops 0 o3.0 in
      let long = length_push d.inputs w in
      record {
        first = λ e. absurd (not_none d.limit o2.0 e);
        limit = g.limit;
        input_count = omega arith;
        input = push_each (λ i x. (1 ≤ x) × (x ≤ 40)) d.inputs w 0 g.input (leb-true 1 w r.0, leb-true w 40 r.1);
        operation_count = g.operation_count;
        operation = λ o l. absurd (omega arith);
        output_count = g.output_count;
        output = g.output;
        ended = g.ended;
      }

  -- an operation that is good behind what was read
  module _ (x : Operation) (begun : is_some d.limit ≡ true) (none : is_empty d.outputs ≡ true) (room : ltb ops 64 ≡ true) (fine : good_operation ins ops x ≡ true) where
    good_more : Good (record { limit = d.limit; inputs = d.inputs; operations = d.operations ++ x ∷ []; outputs = d.outputs; ended = d.ended })
    good_more =
        let m = ltb-true ops 64 room in
        let long = length_push d.operations x in
        let no_outs : length d.outputs ≡ 0 = eqb-true (length d.outputs) 0 none in
        record {
          first = λ e. absurd (not_none d.limit begun e);
          limit = g.limit;
          input_count = g.input_count;
          input = g.input;
          operation_count = omega arith;
          operation = push_each (λ o y. good_operation ins o y ≡ true) d.operations x no_operation g.operation fine;
          output_count = g.output_count;
          output = λ k l. absurd (omega arith);
          ended = λ e. ((g.ended e).0, omega arith, (g.ended e).2);
        }

  good_add : (p : ℕ) (a b : Feed) → Passes d (command.Add p a b) → Good (after d (command.Add p a b))
  good_add p a b h =
      let o1 = and_parts (not d.ended) _ h.order in
      let o2 = and_parts (is_some d.limit) _ o1.1 in
      let r = and_parts (valid 0 (sides_of p 0)) _ h.range in
      let s = and_parts (feed_range a) (feed_range b) r.1 in
      let n = and_parts (is_named ins ops (source_of a.source)) (is_named ins ops (source_of b.source)) h.named in
      good_more (Add p (operand_of a) (operand_of b)) o2.0 o2.1 h.room
      (and_from (valid 0 (sides_of p 0)) _ r.0 (and_from _ _ (good_feed ins ops a s.0 n.0) (good_feed ins ops b s.1 n.1)))

  good_multiply : (p q : ℕ) (a b : Feed) → Passes d (command.Multiply p q a b) → Good (after d (command.Multiply p q a b))
  good_multiply p q a b h =
      let o1 = and_parts (not d.ended) _ h.order in
      let o2 = and_parts (is_some d.limit) _ o1.1 in
      let r = and_parts (valid 1 (sides_of p q)) _ h.range in
      let s = and_parts (feed_range a) (feed_range b) r.1 in
      let n = and_parts (is_named ins ops (source_of a.source)) (is_named ins ops (source_of b.source)) h.named in
      good_more (Multiply p q (operand_of a) (operand_of b)) o2.0 o2.1 h.room
      (and_from (valid 1 (sides_of p q)) _ r.0 (and_from _ _ (good_feed ins ops a s.0 n.0) (good_feed ins ops b s.1 n.1)))

  good_output : (s : ℕ) → Passes d (command.Output s) → Good (after d (command.Output s))
  good_output s h =
      let o1 = and_parts (not d.ended) _ h.order in
      let o2 = and_parts (is_some d.limit) _ o1.1 in
      let m = ltb-true (length d.outputs) 16 h.room in
      let long = length_push d.outputs (s - 64) in
      record {
        first = λ e. absurd (not_none d.limit o2.0 e);
        limit = g.limit;
        input_count = g.input_count;
        input = g.input;
        operation_count = g.operation_count;
        operation = g.operation;
        output_count = omega arith;
        output = push_each (λ k x. x < ops) d.outputs (s - 64) 0 g.output (ltb-true (s - 64) ops h.named);
        ended = λ e. ((g.ended e).0, (g.ended e).1, omega arith);
      }

  good_end : Passes d command.End → Good (after d command.End)
  good_end h =
      let o1 = and_parts (not d.ended) _ h.order in
      let o2 = and_parts (is_some d.limit) _ o1.1 in
      let o3 = and_parts (not (is_empty d.operations)) (not (is_empty d.outputs)) o2.1 in
      record {
        first = g.first;
        limit = g.limit;
        input_count = g.input_count;
        input = g.input;
        operation_count = g.operation_count;
        operation = g.operation;
        output_count = g.output_count;
        output = g.output;
        ended = λ _. (o2.0, some d.operations o3.0, some d.outputs o3.1);
      }

  good_after : (c : Command) → Passes d c → Good (after d c)
  good_after (command.Steps n) h = good_steps n h
  good_after (command.Input w) h = good_input w h
  good_after (command.Add p a b) h = good_add p a b h
  good_after (command.Multiply p q a b) h = good_multiply p q a b h
  good_after (command.Output s) h = good_output s h
  good_after command.End h = good_end h

-- the bytes that were read so far
abbrev limit_bytes : Option ℕ → List ℕ
limit_bytes None = []
limit_bytes (Some n) = 0x10 ∷ n ∷ []

abbrev end_bytes : Bool → List ℕ
end_bytes true = 0x1F ∷ []
end_bytes false = []

abbrev bytes_of : Option ℕ → List ℕ → List Operation → List ℕ → Bool → List ℕ
bytes_of limit ins ops outs ended = limit_bytes limit ++ (flat_map input_bytes ins ++ (flat_map operation_bytes ops ++ (flat_map output_bytes outs ++ end_bytes ended)))

abbrev bytes_so_far : Sofar → List ℕ
bytes_so_far d = bytes_of d.limit d.inputs d.operations d.outputs d.ended

-- one element more, where nothing stands behind it yet
flat_map_push : {A : Type 0} (f : A → List ℕ) (xs : List A) (x : A) → flat_map f (xs ++ x ∷ []) ≡ flat_map f xs ++ f x
flat_map_push f xs x = sym (flat_map_more f [] xs x)

bytes_steps : (n : ℕ) (limit : Option ℕ) (ins : List ℕ) (ops : List Operation) (outs : List ℕ) (ended : Bool)
    → limit ≡ None → ins ≡ [] → ops ≡ [] → outs ≡ [] → ended ≡ false → bytes_of (Some n) ins ops outs ended ≡ bytes_of limit ins ops outs ended ++ (0x10 ∷ n ∷ [])
bytes_steps n limit ins ops outs ended l i o u e = rw (l, i, o, u, e)

bytes_input : (w : ℕ) (limit : Option ℕ) (ins : List ℕ) (ops : List Operation) (outs : List ℕ) (ended : Bool)
    → ops ≡ [] → outs ≡ [] → ended ≡ false → bytes_of limit (ins ++ w ∷ []) ops outs ended ≡ bytes_of limit ins ops outs ended ++ input_bytes w
bytes_input w limit ins ops outs ended o u e = rw (o, u, e, flat_map_push input_bytes ins w) (simp (append_assoc, append-nil))

bytes_operation : (x : Operation) (limit : Option ℕ) (ins : List ℕ) (ops : List Operation) (outs : List ℕ) (ended : Bool)
    → outs ≡ [] → ended ≡ false → bytes_of limit ins (ops ++ x ∷ []) outs ended ≡ bytes_of limit ins ops outs ended ++ operation_bytes x
bytes_operation x limit ins ops outs ended u e = rw (u, e, flat_map_push operation_bytes ops x) (simp (append_assoc, append-nil))

bytes_output : (x : ℕ) (limit : Option ℕ) (ins : List ℕ) (ops : List Operation) (outs : List ℕ) (ended : Bool)
    → ended ≡ false → bytes_of limit ins ops (outs ++ x ∷ []) ended ≡ bytes_of limit ins ops outs ended ++ output_bytes x
bytes_output x limit ins ops outs ended e = rw (e, flat_map_push output_bytes outs x) (simp (append_assoc, append-nil))

bytes_end : (limit : Option ℕ) (ins : List ℕ) (ops : List Operation) (outs : List ℕ) (ended : Bool)
    → ended ≡ false → bytes_of limit ins ops outs true ≡ bytes_of limit ins ops outs ended ++ (0x1F ∷ [])
bytes_end limit ins ops outs ended e = rw e (simp (append_assoc, append-nil))

-- a command that is taken adds its bytes
module _ (d : Sofar) (g : Good d) where
  bytes_after : (c : Command) → Passes d c → bytes_so_far (after d c) ≡ bytes_so_far d ++ command_bytes c
  bytes_after (command.Steps n) h =
      let o = and_parts (not d.ended) (not (is_some d.limit)) h.order in
      let l = none_of d.limit o.1 in
      let f = g.first l in
      bytes_steps n d.limit d.inputs d.operations d.outputs d.ended l f.0 f.1 f.2 (not-true d.ended o.0)
  bytes_after (command.Input w) h =
      let o1 = and_parts (not d.ended) _ h.order in
      let o2 = and_parts (is_some d.limit) _ o1.1 in
      let o3 = and_parts (is_empty d.operations) (is_empty d.outputs) o2.1 in
      bytes_input w d.limit d.inputs d.operations d.outputs d.ended (nil d.operations o3.0) (nil d.outputs o3.1) (not-true d.ended o1.0)
  bytes_after (command.Add p a b) h =
      let o1 = and_parts (not d.ended) _ h.order in
      let o2 = and_parts (is_some d.limit) _ o1.1 in
      let r = and_parts (valid 0 (sides_of p 0)) _ h.range in
      let s = and_parts (feed_range a) (feed_range b) r.1 in
      let x = byte_source a.source (and_parts (source_range a.source) (leb a.drop 63) s.0).0 in
      let y = byte_source b.source (and_parts (source_range b.source) (leb b.drop 63) s.1).0 in
      bytes_operation (Add p (operand_of a) (operand_of b)) d.limit d.inputs d.operations d.outputs d.ended (nil d.outputs o2.1) (not-true d.ended o1.0)
      ∙ ap₂ (λ u v. bytes_so_far d ++ (0x12 ∷ p ∷ u ∷ a.drop ∷ v ∷ b.drop ∷ [])) x y
  bytes_after (command.Multiply p q a b) h =
      let o1 = and_parts (not d.ended) _ h.order in
      let o2 = and_parts (is_some d.limit) _ o1.1 in
      let r = and_parts (valid 1 (sides_of p q)) _ h.range in
      let s = and_parts (feed_range a) (feed_range b) r.1 in
      let x = byte_source a.source (and_parts (source_range a.source) (leb a.drop 63) s.0).0 in
      let y = byte_source b.source (and_parts (source_range b.source) (leb b.drop 63) s.1).0 in
      bytes_operation (Multiply p q (operand_of a) (operand_of b)) d.limit d.inputs d.operations d.outputs d.ended (nil d.outputs o2.1) (not-true d.ended o1.0)
      ∙ ap₂ (λ u v. bytes_so_far d ++ (0x13 ∷ p ∷ q ∷ u ∷ a.drop ∷ v ∷ b.drop ∷ [])) x y
  bytes_after (command.Output s) h =
      let o1 = and_parts (not d.ended) _ h.order in
      let r = and_parts (leb 64 s) (leb s 127) h.range in
      let l = leb-true 64 s r.0 in
      let e : 64 + (s - 64) ≡ s = omega arith in
      bytes_output (s - 64) d.limit d.inputs d.operations d.outputs d.ended (not-true d.ended o1.0)
      ∙ ap (λ u. bytes_so_far d ++ (0x14 ∷ u ∷ [])) e
  bytes_after command.End h =
      let o1 = and_parts (not d.ended) _ h.order in
      bytes_end d.limit d.inputs d.operations d.outputs d.ended (not-true d.ended o1.0)

-- the graph at the end
abbrev Written : Sofar → List ℕ → Graph → Type 0
Written d bs G = WellFormed G × (bytes_so_far d ++ bs ≡ write G)

whole : (d : Sofar) → Good d → d.ended ≡ true → Written d [] (whole_graph d)
whole d g e = with_limit d.limit refl where
  with_limit : (l : Option ℕ) → d.limit ≡ l → Written d [] (whole_graph d)
  with_limit None k = absurd (not_none d.limit (g.ended e).0 k)
  with_limit (Some n) k = (
    record {
      limit = rw k (g.limit n k);
      input_count = g.input_count;
      input = g.input;
      operation_count = ((g.ended e).1, g.operation_count);
      operation = g.operation;
      output_count = ((g.ended e).2, g.output_count);
      output = g.output;
    },
    append-nil (bytes_so_far d)
        ∙ ap₂ (λ l t. bytes_of l d.inputs d.operations d.outputs t) k e
        ∙ ap (λ x. bytes_of (Some x) d.inputs d.operations d.outputs true) (sym (ap (λ l. unwrap_or l 0) k)),
  )

-- the end of the bytes
at_end : (d : Sofar) (at : ℕ) (G : Graph) (t : Bool) → d.ended ≡ t → Good d → cond t (Ok (whole_graph d)) (Err (CutShort at)) ≡ Ok G → Written d [] G
at_end d at G true e g h = let i : whole_graph d ≡ G = cc in subst (Written d []) i (whole d g e)
at_end d at G false e g h = let z : ◌≡◌ {A = ℕ} 0 1 = cc in absurd (omega arith)

abbrev ExactFrom : List ℕ → Graph → Type 0
ExactFrom bs G = (k : ℕ) (d : Sofar) (at : ℕ) → k ≤ length bs → Good d → judge d at (script sheet_format k bs) ≡ Ok G → Written d (drop k bs) G

-- one command, where the bytes behind its own are exact
module _ (b : ℕ) (bs : List ℕ) (G : Graph) (later : ExactFrom bs G) (d : Sofar) (at : ℕ) (g : Good d) where
  taken : (n : ℕ) → operands b ≡ Some n → n ≤ length bs → (o : Option Fault) → cause d at (command_of b bs) ≡ o
      → continue o (judge (after d (command_of b bs)) (at + suc n) (script sheet_format n bs)) ≡ Ok G → Written d (b ∷ bs) G
  taken n q h (Some f) k e = let z : ◌≡◌ {A = ℕ} 0 1 = cc in absurd (omega arith)
  taken n q h None k e =
      let c = command_of b bs in
      let p = passes d at c k in
      let w = later n (after d c) (at + suc n) h (good_after d g c p) e in
      let same : bytes_so_far (after d c) ++ drop n bs ≡ bytes_so_far d ++ (b ∷ bs) =
      ap (λ x. x ++ drop n bs) (bytes_after d g c p) ∙ append_assoc (bytes_so_far d) (command_bytes c) (drop n bs) ∙ ap (λ x. bytes_so_far d ++ x) (decoded bs b n q h) in
      (w.0, sym same ∙ w.1)

  counted : (o : Option ℕ) → operands b ≡ o → judge d at (begun sheet_format b bs o (λ n. script sheet_format n bs)) ≡ Ok G → Written d (b ∷ bs) G
  unfolding judge
  counted None q e = let z : ◌≡◌ {A = ℕ} 0 1 = cc in absurd (omega arith)
  counted (Some n) q e =
      elim (cases_lt (length bs) n) [
        | inl h ↦
            (let s = begun_short sheet_format b bs n (Some n) (λ n. script sheet_format n bs) refl h in
            let e' = sym (ap (judge d at) s) ∙ e in
            let z : ◌≡◌ {A = ℕ} 0 1 = cc in absurd (omega arith))
        | inr h ↦
            (let s = begun_whole sheet_format b bs n (Some n) (λ n. script sheet_format n bs) refl h in
            taken n q h (cause d at (command_of b bs)) refl (sym (ap (judge d at) s) ∙ e))
      ]

exact_from : (bs : List ℕ) (G : Graph) → ExactFrom bs G
unfolding script judge
exact_from [] G zero d at h g e = at_end d at G d.ended refl g e
exact_from [] G (suc k) d at h g e = absurd (omega arith)
exact_from (b ∷ bs) G zero d at h g e = counted b bs G (exact_from bs G) d at g (operands b) refl e
exact_from (b ∷ bs) G (suc k) d at h g e = exact_from bs G k d at (omega arith) g e

pub exact : (bs : List ℕ) (G : Graph) → read bs ≡ Ok G → WellFormed G × (bs ≡ write G)
unfolding read
exact bs G e = exact_from bs G 0 nothing_read 0 (omega arith) good_nothing e
