-- Rows to which nodes and values are added.
use Rattle.std.proofs.Common.{◌≡◌, refl, ap, ◌∙◌, ℕ, ◌<◌, List, length, map, IsTrue, arith}
use Rattle.code_rows.specs.declared.fill.Fill.{Fill}
use Rattle.code_rows.specs.declared.node.Node.{Node}
use Rattle.code_rows.specs.declared.rows.Rows.{Rows}
use Rattle.code_rows.specs.Rows.{code_at, Grew}
use Rattle.code_rows.specs.Values.{fill_at, are_within, AllGrew}
use Rattle.code_rows.specs.Points.{actual_of, text_of, is_actual_there, is_text_there, is_node, is_value, AreSound, RowsGrew}
use Rattle.code_rows.proofs.Filled.{within_grew, nodes_grew}
use Rattle.code_rows.proofs.Kept.{more_nodes, sound_parts, sound_within, map_same, actual_kept, text_kept, all_actuals, all_texts, node_kept, value_kept}
use Rattle.program_lowering.specs.Arounds.{actuals_in, texts_in}

module _ (a : Rows) (nodes : List Node) (fills : List Fill) (g : AllGrew a.nodes a.fills nodes fills) (sound : AreSound a) where
  abbrev more : Rows
  more = record a { nodes = nodes; fills = fills }

  pub parts_grew : RowsGrew a (record a { nodes = nodes; fills = fills })
  parts_grew = more_nodes a more g refl refl refl refl

  pub parts_sound : IsTrue (are_within nodes fills) → AreSound (record a { nodes = nodes; fills = fills })
  parts_sound within = sound_parts a more g refl refl refl refl within sound

  pub parts_actuals : actuals_in (record a { nodes = nodes; fills = fills }) ≡ actuals_in a
  parts_actuals =
      map_same (is_actual_there a) (actual_of more) (actual_of a) (actual_kept a more parts_grew) a.actuals.items
      (all_actuals a more parts_grew sound)

  pub parts_texts : texts_in (record a { nodes = nodes; fills = fills }) ≡ texts_in a
  parts_texts =
      map_same (is_text_there a) (text_of more) (text_of a) (text_kept a more parts_grew) a.texts.items
      (all_texts a more parts_grew sound)

module _ (a : Rows) (nodes : List Node) (g : Grew a.nodes nodes) (sound : AreSound a) where
  all_grew : AllGrew a.nodes a.fills nodes a.fills
  all_grew = nodes_grew a.nodes nodes a.fills g (sound_within a sound)

  pub nodes_more : RowsGrew a (record a { nodes = nodes })
  nodes_more = parts_grew a nodes a.fills all_grew sound

  pub nodes_sound : AreSound (record a { nodes = nodes })
  nodes_sound = parts_sound a nodes a.fills all_grew sound (within_grew a.nodes nodes a.fills g (sound_within a sound))

  pub nodes_actuals : actuals_in (record a { nodes = nodes }) ≡ actuals_in a
  nodes_actuals = parts_actuals a nodes a.fills all_grew sound

  pub nodes_texts : texts_in (record a { nodes = nodes }) ≡ texts_in a
  nodes_texts = parts_texts a nodes a.fills all_grew sound

-- What is there stays.
is_node_there : (a : Rows) (n : ℕ) → n < length a.nodes → IsTrue (is_node a n)
is_node_there a n lt = grind arith

is_value_there : (a : Rows) (n : ℕ) → n < length a.fills → IsTrue (is_value a n)
is_value_there a n lt = grind arith

pub node_same : (a b : Rows) (n : ℕ) → RowsGrew a b → n < length a.nodes → code_at b.nodes n ≡ code_at a.nodes n
node_same a b n g lt = node_kept a b g n (is_node_there a n lt)

pub node_more : (a b : Rows) (n : ℕ) → RowsGrew a b → n < length a.nodes → n < length b.nodes
node_more a b n g lt = omega (arith, lt, g.parts.nodes_grew.more)

pub value_same : (a b : Rows) (n : ℕ) → RowsGrew a b → n < length a.fills → fill_at b.nodes b.fills n ≡ fill_at a.nodes a.fills n
value_same a b n g lt = value_kept a b g n (is_value_there a n lt)

pub value_more : (a b : Rows) (n : ℕ) → RowsGrew a b → n < length a.fills → n < length b.fills
value_more a b n g lt = omega (arith, lt, g.parts.more)

pub texts_same : (a b : Rows) → RowsGrew a b → AreSound a → b.texts ≡ a.texts → texts_in b ≡ texts_in a
texts_same a b g sound e =
    ap (λ all. map (text_of b) all.items) e
    ∙ map_same (is_text_there a) (text_of b) (text_of a) (text_kept a b g) a.texts.items (all_texts a b g sound)
