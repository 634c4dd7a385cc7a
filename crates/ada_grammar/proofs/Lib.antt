-- what each form of a tree is spelled by, where its parts stand, and which fixed names it has
pub mod Levels
pub mod StatementForms
pub mod StatementLevels
pub mod Placed
pub mod PlacedLevels
pub mod StatementPlacedLevels
pub mod StatementNamedLevels
-- expressions that are names, and names that are shorter
pub mod LoneExpressions
pub mod LoneNames
-- small sources, and the trees that are spelled by their tokens
pub mod SmallSources
pub mod SmallUnits
pub mod SmallDeclarations
pub mod SmallStatements
pub mod SmallNames
pub mod SmallExpressions
pub mod SmallRefused
-- the spelling of each source is nested
pub mod ExpressionNesting
pub mod Nesting
-- in outermost expressions no token ends the count of operators, and one between two does
pub mod ExpressionTokens
pub mod LedExpressions
pub mod Outermost
pub mod OutermostRefused
-- laws of the readers of names and expressions
pub mod ExpressionNames
pub mod ExpressionOperators
pub mod ExpressionArgs
pub mod ExpressionSuffixes
pub mod ExpressionParentheses
pub mod ExpressionPrimaries
pub mod ExpressionTerms
pub mod ExpressionChains
pub mod ExpressionLaws
pub mod ExpressionLengths
pub mod ExpressionEnds
pub mod ExpressionLevels
-- laws of ranges and items
pub mod ItemParts
pub mod Range
pub mod ItemTypes
pub mod Item
-- laws of statements
pub mod StatementParts
pub mod SmallTrees
pub mod SimpleStatements
pub mod BranchStatements
pub mod BlockStatements
pub mod Statements
pub mod StatementLoops
-- laws of subprograms and units
pub mod UnitFronts
pub mod UnitParts
pub mod UnitDecls
pub mod UnitBodies
pub mod UnitPackages
pub mod UnitLaws
-- a list has one refused token
pub mod OneRefused
