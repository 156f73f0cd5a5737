mod Slots
mod Known
mod Scopes
pub mod Program
mod OnRows
pub mod Rows
mod Lists
mod Ordered
mod Owned
pub mod Rules
pub mod ImageEvidenceRows
pub mod Explained
pub mod CarriedOut
mod Words
mod QuietWords
pub mod QuietRows
mod Disturbing
mod QuietRoutes
pub mod Elements
pub mod RecordNumbers
pub mod MadeAgain
pub mod Owners
pub mod Tables
pub mod Units
pub mod Plain
pub mod Behind
pub mod ProgramUnits
pub mod Events
pub mod Programs
pub mod Joining
pub mod Runs
pub mod Frames
pub mod Stopping
pub mod Listed
pub mod Told
pub mod Visible
pub mod Outermost
pub mod PutStops
pub mod ProgramPlaces
pub mod ImageTruthTables
pub mod Naming
pub mod Markers
pub mod Carried
pub mod Timed
pub mod StopAddresses
pub mod Logs
pub mod Reaching
pub mod Shadowed
pub mod Whole
pub mod RecoveredRows
pub mod Recipes
pub mod Recovered
pub mod Truth
pub mod Noted
pub mod PassesTruthWords
pub mod Nodes
pub mod Coming
mod Shares
mod MoreLogged
mod Premises
pub mod HidingRows
pub mod FewShared
pub mod FromForms
pub mod ShallowRecipes
pub mod SharedTold
pub mod KeptUnits
pub mod ToldTrails
pub mod Images
pub mod LastUnits
