mod Examples
pub mod BytesRead
pub mod CompanyLaws
pub mod CopyLaws
pub mod CountLaws
pub mod DecideLaws
pub mod EndLaws
pub mod FactLaws
pub mod FlagLaws
mod FlagPuts
pub mod Keeping
pub mod LastWrites
pub mod Laws
pub mod MachineLaws
pub mod Moves
pub mod PlacedLaws
pub mod Puts
pub mod ReadBack
pub mod ReadingLaws
pub mod RegisterLaws
pub mod Runs
pub mod ShapeLaws
pub mod StepLaws
pub mod ValuesLeft
pub mod WriteLaws
