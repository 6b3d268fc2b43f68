pub mod Answering
pub mod Certificates
