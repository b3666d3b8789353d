pub mod Written
pub mod Writable
pub mod QuotaKinds
pub mod Quota
pub mod Laws
