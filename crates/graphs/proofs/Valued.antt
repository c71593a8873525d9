-- The values of operations: looking back further than the operation's own number changes nothing, so each value follows from its operands'.
use Rattle.std.proofs.Common.{◌≡◌, ℕ, zero, suc, ◌+◌, ◌^◌, ◌<◌, ◌≤◌, true, ◌&&◌, leb, List, [], ◌∷◌, ◌++◌, map, length, get_or, take, drop, set, ℤ, pos, ◌+ℤ◌, ◌*ℤ◌, sym, refl, ap, ◌∙◌, subst, ap₂, append_assoc, arith, w64, SFits, to_z, of_z}
use lib.Signed.{mag}
use Rattle.std.specs.List.{range_with_len}
use Rattle.std.proofs.lemmas.Int.{to_z-of_z}
use Rattle.std.proofs.lemmas.List.{drop_more, set_at, get_or_append_left, length-map, length-take-le, map_more}
use Rattle.std.proofs.lemmas.List.FromFn.{length-map-range_with_len, map-range_with_len_more, get_or-map-range_with_len}
use Rattle.std.proofs.lemmas.Bool.{and_parts, and_from, ltb-true, leb-true, lt-ltb}
use Rattle.widths.specs.Kinds.{valid, sides_of}
use Rattle.words.specs.Cut.{cut_to}
use Rattle.words.proofs.Sizes.{cut_size}
use Rattle.graphs.specs.declared.Source.{Source}
use Rattle.graphs.specs.declared.Source.TheVariants.{Input, Earlier}
use Rattle.graphs.specs.declared.Operand.{Operand}
use Rattle.graphs.specs.declared.Operation.{Operation}
use Rattle.graphs.specs.declared.Operation.TheVariants.{Add, Multiply}
use Rattle.graphs.specs.Graphs.{Graph, WellFormed, is_named, good_operand, good_operation, operation_at, no_operation, count}
use Rattle.graphs.specs.Values.{source_value, operand_value, operation_value, value_within, value, operation_values, output_values, value_in, overwritten, ValuesLaw}

module _ (widths : List ℕ) (xs : List ℤ) (V W : ℕ → ℤ) (o : ℕ) (same : (e : ℕ) → e < o → V e ≡ W e) where
  source_same : (n : ℕ) (x : Source) → is_named n o x ≡ true → source_value widths xs V x ≡ source_value widths xs W x
  source_same n (Input i) h = refl
  source_same n (Earlier e) h = same e (ltb-true e o h)

  operand_same : (n : ℕ) (x : Operand) (port : ℕ) → good_operand n o x ≡ true → operand_value widths xs V x port ≡ operand_value widths xs W x port
  operand_same n x port h = ap (λ v. cut_to v x.drop port) (source_same n x.source (and_parts (leb x.drop 63) _ h).1)

  -- an operation looks at the values of earlier ones alone
  pub operation_same : (n : ℕ) (x : Operation) → good_operation n o x ≡ true → operation_value widths xs V x ≡ operation_value widths xs W x
  operation_same n (Add p a b) h =
      let g = and_parts (good_operand n o a) (good_operand n o b) (and_parts (valid 0 (sides_of p 0)) _ h).1 in
      ap₂ (λ u v. cut_to (u +ℤ v) 0 p) (operand_same n a p g.0) (operand_same n b p g.1)
  operation_same n (Multiply p q a b) h =
      let g = and_parts (good_operand n o a) (good_operand n o b) (and_parts (valid 1 (sides_of p q)) _ h).1 in
      ap₂ ◌*ℤ◌ (operand_same n a p g.0) (operand_same n b q g.1)

module _ (G : Graph) (wf : WellFormed G) (xs : List ℤ) where
  deep : (k j o : ℕ) → o < count G → o < k → o < j → value_within G xs k o ≡ value_within G xs j o
  unfolding value_within
  deep zero j o there a b = absurd (omega arith)
  deep (suc k) zero o there a b = absurd (omega arith)
  deep (suc k) (suc j) o there a b =
      operation_same G.inputs xs (value_within G xs k) (value_within G xs j) o (λ e l. deep k j e (omega arith) (omega arith) (omega arith)) (length G.inputs) (operation_at G o) (wf.operation o there)

  follows : (o : ℕ) → o < count G → value G xs o ≡ operation_value G.inputs xs (value G xs) (operation_at G o)
  unfolding value value_within
  follows o there =
      operation_same G.inputs xs (value_within G xs o) (value G xs) o (λ e l. deep o (suc e) e (omega arith) l (omega arith)) (length G.inputs) (operation_at G o) (wf.operation o there)

  module _ (V : ℕ → ℤ) (meets : (o : ℕ) → o < count G → V o ≡ operation_value G.inputs xs V (operation_at G o)) where
    only_below : (n o : ℕ) → o < n → o < count G → V o ≡ value G xs o
    only_below zero o a there = absurd (omega arith)
    only_below (suc n) o a there =
        meets o there
        ∙ operation_same G.inputs xs V (value G xs) o (λ e l. only_below n e (omega arith) (omega arith)) (length G.inputs) (operation_at G o) (wf.operation o there)
        ∙ sym (follows o there)

  pub values_law : ValuesLaw G xs
  values_law = record { follows = follows; only = λ V meets o there. only_below V meets (suc o) o (omega arith) there }

-- more operations to name, as many good operations
named_more : (n o m : ℕ) (x : Source) → o ≤ m → is_named n o x ≡ true → is_named n m x ≡ true
named_more n o m (Input i) h g = g
named_more n o m (Earlier e) h g = let l = ltb-true e o g in lt-ltb e m (omega arith)

operand_more : (n o m : ℕ) (x : Operand) → o ≤ m → good_operand n o x ≡ true → good_operand n m x ≡ true
operand_more n o m x h g = let p = and_parts (leb x.drop 63) _ g in and_from (leb x.drop 63) _ p.0 (named_more n o m x.source h p.1)

pub operation_more : (n o m : ℕ) (x : Operation) → o ≤ m → good_operation n o x ≡ true → good_operation n m x ≡ true
operation_more n o m (Add p a b) h g =
    let v = and_parts (valid 0 (sides_of p 0)) _ g in
    let w = and_parts (good_operand n o a) (good_operand n o b) v.1 in
    and_from (valid 0 (sides_of p 0)) _ v.0 (and_from _ _ (operand_more n o m a h w.0) (operand_more n o m b h w.1))
operation_more n o m (Multiply p q a b) h g =
    let v = and_parts (valid 1 (sides_of p q)) _ g in
    let w = and_parts (good_operand n o a) (good_operand n o b) v.1 in
    and_from (valid 1 (sides_of p q)) _ v.0 (and_from _ _ (operand_more n o m a h w.0) (operand_more n o m b h w.1))

-- what the ports of an operation read is small
pub port_small : (r z : ℤ) (d w n : ℕ) → SFits w64 r → r ≡ cut_to z d w → 1 ≤ w → w ≤ suc n → mag (to_z w64 (of_z w64 r)) < 2 ^ n
port_small r z d w n f e some most = subst (λ x. mag x < 2 ^ n) (sym (to_z-of_z w64 r f ∙ e)) (cut_size z d w n some most)

pub adder_ports : (p : ℕ) → valid 0 (sides_of p 0) ≡ true → (1 ≤ p) × (p ≤ 40)
adder_ports p h = let a = and_parts (leb 1 p && leb p 40) _ h in let b = and_parts (leb 1 p) (leb p 40) a.0 in (leb-true 1 p b.0, leb-true p 40 b.1)

pub multiplier_ports : (p q : ℕ) → valid 1 (sides_of p q) ≡ true → ((1 ≤ p) × (p ≤ 40)) × ((1 ≤ q) × (q ≤ 24))
multiplier_ports p q h =
    let a = and_parts (leb 1 p && leb p 40) _ h in
    let b = and_parts (leb 1 p) (leb p 40) a.0 in
    let c = and_parts (leb 1 q && leb q 24) (leb q p) a.1 in
    let d = and_parts (leb 1 q) (leb q 24) c.0 in
    ((leb-true 1 p b.0, leb-true p 40 b.1), (leb-true 1 q d.0, leb-true q 24 d.1))

-- one value more at the front of a buffer
front_more : (front vs out : List ℤ) (o : ℕ) (v : ℤ) → vs ≡ front ++ drop o out → length front ≡ o → o < length out → set vs o v ≡ (front ++ v ∷ []) ++ drop (o + 1) out
front_more front vs out o v e l h =
    ap (λ x. set x o v) (e ∙ ap (λ x. front ++ x) (drop_more out o (pos 0) h))
    ∙ set_at front (get_or out o (pos 0)) (drop (o + 1) out) v o l
    ∙ sym (append_assoc front (v ∷ []) (drop (o + 1) out))

-- the operations of a well-formed graph, with the values of the first o of them at the front of a buffer
module _ (G : Graph) (wf : WellFormed G) (xs : List ℤ) (ops : List Operation) (ops_are : ops ≡ G.operations) (o : ℕ) (there : o < length ops) where
  inside : o < count G
  inside = subst (λ x. o < length x) ops_are there

  fine : good_operation (length G.inputs) o (get_or ops o no_operation) ≡ true
  fine = ap (λ x. good_operation (length G.inputs) o (get_or x o no_operation)) ops_are ∙ wf.operation o inside

  module _ (vs out : List ℤ) (r : ℤ) (fits : SFits w64 r) (is : r ≡ operation_value G.inputs xs (value_in vs) (get_or ops o no_operation)) (before : vs ≡ map (value G xs) (range_with_len 0 o) ++ drop o out) where
    at_front : (e : ℕ) → e < o → get_or vs e (pos 0) ≡ value G xs e
    at_front e h =
        let l = length-map-range_with_len (value G xs) 0 o in
        ap (λ x. get_or x e (pos 0)) before
        ∙ get_or_append_left (map (value G xs) (range_with_len 0 o)) (drop o out) (pos 0) e (omega arith)
        ∙ get_or-map-range_with_len (value G xs) 0 o e e (pos 0) h (omega arith)

    next_value : to_z w64 (of_z w64 r) ≡ value G xs o
    next_value =
        to_z-of_z w64 r fits ∙ is
        ∙ operation_same G.inputs xs (value_in vs) (value G xs) o at_front (length G.inputs) (get_or ops o no_operation) fine
        ∙ ap (λ x. operation_value G.inputs xs (value G xs) (get_or x o no_operation)) ops_are
        ∙ sym (follows G wf xs o inside)

    pub value_more : o < length out → set vs o (to_z w64 (of_z w64 r)) ≡ map (value G xs) (range_with_len 0 (o + 1)) ++ drop (o + 1) out
    value_more h =
        front_more (map (value G xs) (range_with_len 0 o)) vs out o (to_z w64 (of_z w64 r)) before (length-map-range_with_len (value G xs) 0 o) h
        ∙ ap (λ x. x ++ drop (o + 1) out) (ap (λ x. map (value G xs) (range_with_len 0 o) ++ x ∷ []) next_value ∙ sym (map-range_with_len_more (value G xs) 0 o o (omega arith)))

-- the same for values that are looked up by number
module _ (f : ℕ → ℤ) (named : List ℕ) (out : List ℤ) where
  pub pick_more : (vs : List ℤ) (k : ℕ) (v : ℤ) → vs ≡ map f (take k named) ++ drop k out → k < length named → k < length out → v ≡ f (get_or named k 0) → set vs k v ≡ map f (take (k + 1) named) ++ drop (k + 1) out
  pick_more vs k v e there h is =
      front_more (map f (take k named)) vs out k v e (length-map (take k named) f ∙ length-take-le k named (omega arith)) h
      ∙ ap (λ x. x ++ drop (k + 1) out) (ap (λ x. map f (take k named) ++ x ∷ []) is ∙ sym (map_more f named k 0 there))

-- the values of named operations, taken from a buffer that begins with all of them
picked_front : (f : ℕ → ℤ) (n : ℕ) (rest : List ℤ) (named : List ℕ) → ((k : ℕ) → k < length named → get_or named k 0 < n) → map (value_in (map f (range_with_len 0 n) ++ rest)) named ≡ map f named
picked_front f n rest [] h = refl
picked_front f n rest (o ∷ named) h =
    let l = length-map-range_with_len f 0 n in
    let small : o < n = h 0 (omega arith) in
    ap₂ ◌∷◌
    (get_or_append_left (map f (range_with_len 0 n)) rest (pos 0) o (omega arith) ∙ get_or-map-range_with_len f 0 n o o (pos 0) small (omega arith))
    (picked_front f n rest named (λ k g. h (suc k) (omega arith)))

pub outputs_are : (G : Graph) → WellFormed G → (xs : List ℤ) (vs out : List ℤ) → vs ≡ overwritten (operation_values G xs) out → map (value_in vs) G.outputs ≡ output_values G xs
outputs_are G wf xs vs out e =
    ap (λ x. map (value_in x) G.outputs) e
    ∙ picked_front (value G xs) (count G) (drop (length (operation_values G xs)) out) G.outputs wf.output
