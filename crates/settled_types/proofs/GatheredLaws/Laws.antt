-- What typed expressions ask of tables holds of programs where components have names of their own, and anonymous
-- access types numbers of their own.
use Rattle.std.proofs.Common.{◌≡◌, inl, ℕ, ◌<◌, arith, IsTrue, None}
use Rattle.machine.specs.spark_base.Lists.{Has}
use Rattle.machine.specs.resolved_tree.Trees.{Code, Program}
use Rattle.machine.specs.type_definitions.declared.table.Known.{Known}
use Rattle.machine.specs.type_definitions.Whole.{known_of, type_fault}
use Rattle.type_sizes.specs.Formed.{all_formed}
use Rattle.settled_types.specs.Orderly.{IsOrderly}
use Rattle.settled_types.specs.Stamped.{AllOpen}
use Rattle.settled_types.proofs.Faultless.{program_open}
use Rattle.settled_types.proofs.Main.{whole as whole_types}
use Rattle.soundness.specs.TypedLaws.Fine.{Laws}
use Rattle.settled_types.specs.GatheredLaws.Left.{Left}
use Rattle.settled_types.specs.GatheredLaws.Views.{AreViews}
use Rattle.settled_types.specs.GatheredLaws.Made.{IsMade, AreTypes}
use Rattle.settled_types.specs.GatheredLaws.Faultless.{IsFaultless}
use Rattle.settled_types.proofs.GatheredLaws.Main.{are_types, certain, bounded, element, target, object, literal, typed, result, component, whole, listed}
use Rattle.settled_types.proofs.GatheredLaws.Faultless.{program_faultless}
use Rattle.settled_types.proofs.GatheredLaws.Sentences as sentences

pub program_laws : (p : Program) → IsTrue (all_formed p.units) → IsOrderly p → type_fault p ≡ None → AreViews p.units (known_of p).table
    → Left (known_of p) → Laws (known_of p) (IsMade p.units)
program_laws p formed orderly none views left =
    let is = IsMade p.units in
    let low : (t : ℕ) → t < 5 → is t = λ t less. inl less in
    let known : Known = known_of p in
    let are : AreTypes is known = are_types p orderly in
    let opens : AllOpen known p.units = program_open p formed none in
    let faultless : (u : Code) → Has p.units u → IsFaultless known u = program_faultless p formed none in
    let wholes = whole_types p formed orderly none in record {
      same = sentences.same p orderly opens views faultless;
      owns = wholes.own_law;
      plain = wholes.plain;
      word_law = wholes.word_law;
      based = λ t m. are.bases t;
      base_of = sentences.base_of p orderly opens views faultless;
      whole = whole is low known are;
      listed = listed is low known are;
      integers = inl (omega arith);
      booleans = inl (omega arith);
      numeric = sentences.numeric p orderly opens views faultless;
      component = λ t i m. component is low known are t i;
      element = λ t of a b m e. element is low known are t of a b e;
      target = λ t d constant named m e. target is low known are t d constant named e;
      object = object is low known are;
      literal = λ d t n e. (literal is low known are d t n e, sentences.literal p orderly opens views faultless d t n e);
      typed = typed is low known are;
      freed = sentences.freed p orderly opens views faultless;
      certain = λ t m. certain is low known are t;
      bounded = λ t m. bounded is low known are t;
      result = result is low known are;
      names = left.names;
    }
