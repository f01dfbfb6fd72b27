pub mod SoundMoves
pub mod Comes
pub mod Drawn
pub mod Plans
pub mod Writes
pub mod Strings
pub mod Becomes
pub mod Bytes
pub mod Landings
pub mod ByteAssignments
pub mod ByteSteps
pub mod Argument
pub mod PutSteps
pub mod Stores
pub mod Own
pub mod Steps
pub mod Declarations
pub mod Origins
pub mod AllocatedAlone
pub mod Whole
pub mod Bundles
pub mod Decided
pub mod Converted
pub mod Taken
pub mod Numbering
pub mod Passed
pub mod Evaluated
pub mod Calls
pub mod Stepping
pub mod Entering
pub mod Returning
pub mod Results
pub mod Handing
pub mod Interfaces
pub mod Known
pub mod Returned
pub mod Callees
pub mod Given
pub mod Kept
pub mod Objects
pub mod ResultPoints
pub mod Declaring
pub mod Words
pub mod Callocs
pub mod Valued
pub mod Made
pub mod Allocations
pub mod KeptSound
pub mod AllSteps
pub mod Promised
pub mod RunStores
pub mod Rooms
pub mod ScalarValues
pub mod CallsMade
mod SafeTargets
pub mod CoveredTargets
pub mod FitExprs
pub mod CoveredRights
pub mod CoveredParts
pub mod CoveredActs
pub mod CoveredCalls
pub mod Accepted
pub mod Plain
pub mod SameHeads
pub mod CalledHeads
pub mod Statics
pub mod StaticBounds
pub mod Told
pub mod StaticKinds
pub mod Small
pub mod Values
pub mod StaticTargets
pub mod Pointees
pub mod Few
pub mod ExpressionRooms
pub mod Down
mod Spots
mod Fine
pub mod Scoped
pub mod Modes
pub mod Checked
mod Ranges
mod FewValues
mod Cover
pub mod Judged
mod Layouts
mod Members
mod CoveredStatics
pub mod Texts
pub mod Runs
pub mod SmallNames
pub mod ScalarLocals
pub mod ObjectTypes
pub mod DeclaredTypes
pub mod TreeStrings
pub mod Spared
pub mod LaidOut
mod Callless
mod Blind
mod Addresses
pub mod NamedObjects
mod ValueTypes
pub mod Spoken
pub mod Variables
pub mod GivenBodies
pub mod CalledNames
pub mod Ones
pub mod MoreBlocks
pub mod StoresLie
pub mod KnownStores
pub mod RunStates
