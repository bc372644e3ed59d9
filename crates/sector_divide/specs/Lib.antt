pub mod Quotas
