pub mod Wanted
pub mod Ahead
pub mod Given
pub mod Tests
pub mod Pushed
pub mod Runs
