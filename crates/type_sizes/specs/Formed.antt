-- Code whose alternatives stand where they may: each in a `case`, and nothing else there.
use Rattle.std.specs.Prelude.{Bool, true, false, ◌&&◌, List, [], ◌∷◌}
use Rattle.resolved_tree.specs.Trees.{Code, SubBody, Package, PackageBody, If, Branch, Case, When, Loop, While, For, Block, NoMore, More}

unfoldable mutual
  pub is_formed : Code → Bool
  is_formed (SubBody front items stmts end) = is_formed items && is_formed stmts
  is_formed (Package d visible hidden) = is_formed visible && is_formed hidden
  is_formed (PackageBody d parts) = is_formed parts
  is_formed (If p branches otherwise) = is_formed branches && is_formed otherwise
  is_formed (Branch p x stmts) = is_formed stmts
  is_formed (Case p x whens) = are_alternatives whens
  is_formed (When choices stmts) = false
  is_formed (Loop p stmts) = is_formed stmts
  is_formed (While p x stmts) = is_formed stmts
  is_formed (For p d reversed range stmts) = is_formed stmts
  is_formed (Block p items stmts end) = is_formed items && is_formed stmts
  is_formed (More a rest) = is_formed a && is_formed rest
  is_formed _ = true

  pub are_alternatives : Code → Bool
  are_alternatives (More a rest) = is_alternative a && are_alternatives rest
  are_alternatives NoMore = true
  are_alternatives _ = false

  pub is_alternative : Code → Bool
  is_alternative (When choices stmts) = is_formed stmts
  is_alternative NoMore = true
  is_alternative _ = false

abbrev pub all_formed : List Code → Bool
all_formed [] = true
all_formed (u ∷ rest) = is_formed u && all_formed rest
