pub mod Trips
pub mod FileBodies
pub mod RootBody
pub mod ExtentBodies
pub mod QuotaBodies
