mod Charging
mod Iterated
mod Numbers
mod Offering
mod Routing
mod Sending
mod Taking
