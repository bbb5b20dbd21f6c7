pub mod GuestModule
